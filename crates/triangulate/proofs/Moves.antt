-- The other moves of the sweep: its two chains changed, the first joining of a point, and the end of joining it.
use Rattle.std.proofs.Common.{◌≡◌, ℕ, ℤ, pos, neg_ℤ, ◌<◌, inl, inr, sym, refl, subst, List, [], ◌∷◌, arith, ◌⊎◌}
use Rattle.std.specs.Prelude.{◌<ℤ◌, ◌≤ℤ◌}
use Rattle.std.proofs.lemmas.Int.{ints}
use Rattle.triangulate.proofs.Field.{Setting, Laws, AreTurned, by_place, up_to_before, before_up_to, up_to_not_before, zero_ends, zero_last, turned_back}
use Rattle.triangulate.proofs.Turns.{beyond_side}
use Rattle.triangulate.proofs.Sides.{settled_before, settled_side}
use Rattle.triangulate.proofs.Adding.{Adds}
use Rattle.triangulate.proofs.Step.{at, chain_more, apex_more, pairs_add, sweeps_new, met_more}
use Rattle.triangulate.proofs.Wedge.{aside, no_low}
use Rattle.triangulate.specs.Sides.{UpTo, AllLeft, Clear, Beyond, Cross}
use Rattle.triangulate.specs.Front.{Links, Side, Covered, Chain, Reach, Sweeps, Apex, Pairs, Met, From, Joining, Whole, Settled}
use Rattle.plane.proofs.laws.Opposite.{opposite_neg}
use Rattle.number_laws.proofs.Signs.{weak_of_positive}
use Rattle.number_laws.proofs.Signs.{zero_of_neg}
use Rattle.number_laws.proofs.Signs.{weak_of_zero}
use Rattle.triangulate.specs.Front.{strand}
use Rattle.triangulate.proofs.Field.{view}

back_turned : (x y : ℤ) → y ≡ neg_ℤ x → x ≡ neg_ℤ y
back_turned x y e = omega (arith, ints)

cross_turned : (o w : ℕ → ℕ → ℕ → ℤ) → AreTurned o w → (a b c d : ℕ) → Cross w a b c d → Cross o a b c d
cross_turned o w tr a b c d h = (
  opposite_neg (w a b c) (w a b d) (o a b c) (o a b d) (back_turned (o a b c) (w a b c) (tr a b c)) (back_turned (o a b d) (w a b d) (tr a b d)) h.0,
  opposite_neg (w c d a) (w c d b) (o c d a) (o c d b) (back_turned (o c d a) (w c d a) (tr c d a)) (back_turned (o c d b) (w c d b) (tr c d b)) h.1,
)

sweeps_turned : (E : Setting) (o w : ℕ → ℕ → ℕ → ℤ) → AreTurned o w → (p q : ℕ) → Sweeps (view E o) p q → Sweeps (view E w) p q
sweeps_turned E o w tr p q h = record {
  clear = λ s sn hp hq e. h.clear s sn hp hq (zero_of_neg (w p s q) (o p s q) (tr p s q) e);
  alone = λ k l kn ln hk hl c. h.alone k l kn ln hk hl (cross_turned o w tr p q k l c);
}

pairs_turned : (E : Setting) (o w : ℕ → ℕ → ℕ → ℤ) → AreTurned o w → (J : ℕ → ℕ → Type 0) (z : ℕ) → Pairs (view E o) J z → Pairs (view E w) J z
pairs_turned E o w tr J z h = record {
  in_first = h.in_first;
  up_to = h.up_to;
  back = h.back;
  differ = h.differ;
  sweeps = λ p q j k. sweeps_turned E o w tr p q (h.sweeps p q j k);
}

both_turned : (x y v : ℤ) → v ≡ neg_ℤ y → y ≡ neg_ℤ x → v ≡ x
both_turned x y v e f = omega (arith, ints)

above_same : (x y : ℤ) → y ≡ x → pos 0 <ℤ x → pos 0 <ℤ y
above_same x y e h = omega (arith, ints)

weak_same : (x y : ℤ) → y ≡ x → pos 0 ≤ℤ y → pos 0 ≤ℤ x
weak_same x y e h = omega (arith, ints)

-- the sign of three points with the first two changed, turned
swapped : (E : Setting) (o w : ℕ → ℕ → ℕ → ℤ) → Laws E o → AreTurned o w → (p q s : ℕ) → w p q s ≡ o q p s
swapped E o w L tr p q s = both_turned (o q p s) (o p q s) (w p q s) (tr p q s) (L.swap q p s)

apex_turned : (E : Setting) (o w : ℕ → ℕ → ℕ → ℤ) → Laws E o → AreTurned o w → (J : ℕ → ℕ → Type 0) (p q : ℕ) → Apex (view E o) J q p → Apex (view E w) J p q
apex_turned E o w L tr J p q a = record {
  r = a.r;
  r_in = a.r_in;
  first = a.second;
  second = a.first;
  left = above_same (o q p a.r) (w p q a.r) (swapped E o w L tr p q a.r) a.left;
  empty = record {
    none = λ s sn hp hq hr g. a.empty.none s sn hq hp hr (
      weak_same (o q p s) (w p q s) (swapped E o w L tr p q s) g.0,
      weak_same (o p a.r s) (w a.r p s) (swapped E o w L tr a.r p s) g.2,
      weak_same (o a.r q s) (w q a.r s) (swapped E o w L tr q a.r s) g.1,
    );
  };
}

-- the two chains change places where the plane is turned over
pub turned : (E : Setting) (o w : ℕ → ℕ → ℕ → ℤ) → Laws E o → AreTurned o w → (J : ℕ → ℕ → Type 0) (t : ℕ) (r : List ℕ) (t2 : ℕ) (r2 : List ℕ) (z last : ℕ)
    → Joining (view E o) (view E w) J (strand t r) (strand t2 r2) z last → Joining (view E w) (view E o) J (strand t2 r2) (strand t r) z last
turned E o w L tr J t r t2 r2 z last m = record {
  z_in = m.z_in;
  last_in = m.last_in;
  last_before = m.last_before;
  last_next = m.last_next;
  lower = m.upper;
  upper = m.lower;
  pairs = pairs_turned E o w tr J z m.pairs;
  met = m.met;
  apex = λ p q j. elim (m.apex q p (m.pairs.back p q j)) [
    | inl x ↦ inl (apex_turned E o w L tr J p q x)
    | inr x ↦ elim x [ inl y ↦ inr (inr y) | inr y ↦ inr (inl y) ]
  ];
  older = λ i j iN jn hij hjz k. m.older i j iN jn hij hjz (sweeps_turned E w o (turned_back o w tr) i j k);
  sees = λ i iN hiz k. elim (m.sees i iN hiz (sweeps_turned E w o (turned_back o w tr) i z k)) [
    | inl j ↦ inl j
    | inr u ↦ elim u [ inl x ↦ inr (inr x) | inr x ↦ inr (inl x) ]
  ];
  fresh = λ s j. elim (m.fresh s j) [ inl x ↦ inr x | inr x ↦ inl x ];
}

clash : (x y : ℤ) → y ≡ neg_ℤ x → pos 0 <ℤ x → pos 0 ≤ℤ y → ⊥
clash x y e g h = omega (arith, ints)

-- a point that the new one is still to be joined to isn't joined to it yet
pub unjoined : (E : Setting) (o w : ℕ → ℕ → ℕ → ℤ) → Laws E o → AreTurned o w → (J : ℕ → ℕ → Type 0) (b a : ℕ) (r : List ℕ) (t2 : ℕ) (r2 : List ℕ) (z last : ℕ)
    → Joining (view E o) (view E w) J (strand b (a ∷ r)) (strand t2 r2) z last → o a b z <ℤ pos 0 → ¬ J a z
unjoined E o w L tr J b a r t2 r2 z last m h j =
    let s : Side (view E o) J (λ s. E.B s z) a b = m.lower.chain.sides a b (inl (refl, refl)) in
    let far : Beyond (view E o) a z = beyond_side E o L a b z s.b_in s.before s.b_seen s.left h in
    let hal : E.B a last = before_up_to E a b last s.before (m.last_next b s.b_in s.b_seen) in
    elim (m.fresh a j) [
      | inl f ↦ up_to_not_before E b a f.from s.before
      | inr f ↦ clash (o a z last) (w a z last) (tr a z last) (far last m.last_in hal m.last_before) f.side
    ]

narrower : (E : Setting) (o : ℕ → ℕ → ℕ → ℤ) (J : ℕ → ℕ → Type 0) (Q R : ℕ → Type 0) (t : ℕ) (r : List ℕ) → ((s : ℕ) → s < E.n → R s → Q s) → ((s : ℕ) → Q s → R s)
    → Chain (view E o) J Q t r → Chain (view E o) J R t r
narrower E o J Q R t r f g c = record {
  sides = λ a b k. (let s : Side (view E o) J Q a b = c.sides a b k in
      record { a_in = s.a_in; b_in = s.b_in; before = s.before; b_seen = g b s.b_seen; joined = s.joined; left = λ u un h. s.left u un (f u un h); clear = s.clear });
  covers = c.covers;
}

start_reach : (E : Setting) (o : ℕ → ℕ → ℕ → ℤ) (J J2 : ℕ → ℕ → Type 0) (r : List ℕ) (z last : ℕ) → last < E.n → E.B last z
    → ((s : ℕ) → s < E.n → E.B s z → UpTo E.B s last) → Adds J J2 last z → Chain (view E o) J (λ s. UpTo E.B s last) last r → Reach (view E o) J2 last r z
start_reach E o J J2 r z last ln hlz next add c = record {
  chain = chain_more E o J J2 (λ s. E.B s z) last r add.old
      (narrower E o J (λ s. UpTo E.B s last) (λ s. E.B s z) last r next (λ s h. up_to_before E s last z h hlz) c);
  top_in = ln;
  top_before = hlz;
  joined = add.new;
  beyond = λ s sn h g. up_to_not_before E s last (next s sn g) h;
}

pairs_later : (E : Setting) (o : ℕ → ℕ → ℕ → ℤ) (J : ℕ → ℕ → Type 0) (z last : ℕ) → E.B last z → Pairs (view E o) J last → Pairs (view E o) J z
pairs_later E o J z last h p = record {
  in_first = p.in_first;
  up_to = λ a b j. inr (up_to_before E a last z (p.up_to a b j) h);
  back = p.back;
  differ = p.differ;
  sweeps = p.sweeps;
}

start_met : (E : Setting) (J J2 : ℕ → ℕ → Type 0) (z last : ℕ) → Adds J J2 last z → Met E.n E.B J last → ((s : ℕ) → s < E.n → E.B s z → UpTo E.B s last) → Met E.n E.B J2 z
start_met E J J2 z last add old next s u sn (inl e) un hu = (last, at (λ x y. J2 x last) z z s z e refl add.back)
start_met E J J2 z last add old next s u sn (inr h) un hu = met_more E J J2 add.old s (old s u sn (next s sn h) un hu)

start_sees : (E : Setting) (o w : ℕ → ℕ → ℕ → ℤ) → Laws E o → AreTurned o w → (J : ℕ → ℕ → Type 0) (last z i : ℕ) → last < E.n → E.B last z → i < E.n → J last z → UpTo E.B i last
    → Sweeps (view E o) i z → J i z ⊎ ((o last z i <ℤ pos 0) ⊎ (w last z i <ℤ pos 0))
start_sees E o w L tr J last z i ln hlz iN j (inl e) k = inl (subst (λ x. J x z) (sym e) j)
start_sees E o w L tr J last z i ln hlz iN j (inr h) k = inr (aside E o w L tr last z i ln hlz h k)

-- the new point is joined to the last one
pub start : (E : Setting) (o w : ℕ → ℕ → ℕ → ℤ) → Laws E o → Laws E w → AreTurned o w → (J J2 : ℕ → ℕ → Type 0) (r r2 : List ℕ) (z last : ℕ)
    → Whole (view E o) (view E w) J r r2 last → z < E.n → E.B last z → ((s : ℕ) → s < E.n → E.B s z → UpTo E.B s last) → Adds J J2 last z → Joining (view E o) (view E w) J2 (strand last r) (strand last r2) z last
start E o w L M tr J J2 r r2 z last m zn hlz next add =
    let low : Reach (view E o) J2 last r z = start_reach E o J J2 r z last m.z_in hlz next add m.lower in
    record {
      z_in = zn;
      last_in = m.z_in;
      last_before = hlz;
      last_next = next;
      lower = low;
      upper = start_reach E w J J2 r2 z last m.z_in hlz next add m.upper;
      pairs = pairs_add E o J J2 last z m.z_in zn hlz add
          (sweeps_new E o L last z m.z_in zn hlz low.beyond (λ k l kn ln hk hl g. up_to_not_before E l last (next l ln g) hl))
          (pairs_later E o J z last hlz m.pairs);
      met = λ s u sn hs un hu. start_met E J J2 z last add m.met next s u sn hs un hu;
      apex = λ p q j. elim (add.only p q j) [
        | inl k ↦ elim (m.apex p q k) [
          | inl x ↦ inl (apex_more E o J J2 add.old p q x)
          | inr x ↦ elim x [ inl y ↦ inr (inl (inr y)) | inr y ↦ inr (inr (inr y)) ]
        ]
        | inr k ↦ elim k [
          | inl e ↦ inr (inr (inl (e.0, e.1)))
          | inr e ↦ inr (inl (inl (e.1, e.0)))
        ]
      ];
      older = λ i j iN jn hij hjz k. add.old i j (m.whole i j iN jn hij (next j jn hjz) k);
      sees = λ i iN hiz k. start_sees E o w L tr J2 last z i m.z_in hlz iN add.new (next i iN hiz) k;
      fresh = λ s j. elim (add.only s z j) [
        | inl k ↦ up_to_not_before E z last (m.pairs.up_to z s (m.pairs.back s z k)) hlz
        | inr k ↦ elim k [
          | inl e ↦ inl (at (λ x y. From (view E o) last x z last) last z s z e.0 refl (record { from = inl refl; side = weak_of_zero (o last z last) (zero_ends E o L last z) }))
          | inr e ↦ absurd (E.irrefl z (subst (λ x. E.B x z) (sym e.1) hlz))
        ]
      ];
    }

pub link_below : (E : Setting) (t : ℕ) (r : List ℕ) → ((a b : ℕ) → Links t r a b → E.B a b) → (p q : ℕ) → Links t r p q → UpTo E.B q t
link_below E t [] f p q k = elim k [ ]
link_below E t (s ∷ r) f p q (inl e) = inl e.1
link_below E t (s ∷ r) f p q (inr k) = inr (up_to_before E q s t (link_below E s r (λ a b l. f a b (inr l)) p q k) (f s t (inl (refl, refl))))

-- the points before the last of the chain are left of the closing side
closing : (E : Setting) (o : ℕ → ℕ → ℕ → ℤ) → Laws E o → (J : ℕ → ℕ → Type 0) (t : ℕ) (r : List ℕ) (z : ℕ) → Reach (view E o) J t r z → Settled o t r z
    → (s : ℕ) → s < E.n → E.B s t → pos 0 ≤ℤ o t z s
closing E o L J t [] z c h s sn hst = elim (c.chain.covers s sn hst).link [ ]
closing E o L J t (a ∷ r) z c h s sn hst =
    let k : Side (view E o) J (λ s. E.B s z) a t = c.chain.sides a t (inl (refl, refl)) in
    settled_before E o L a t z s k.a_in sn k.before c.top_before k.left h hst

closing_left : (E : Setting) (o : ℕ → ℕ → ℕ → ℤ) → Laws E o → (J : ℕ → ℕ → Type 0) (t : ℕ) (r : List ℕ) (z : ℕ) → z < E.n → Reach (view E o) J t r z → Settled o t r z
    → AllLeft (view E o) (λ s. UpTo E.B s z) t z
closing_left E o L J t r z zn c h s sn (inl e) = subst (λ x. pos 0 ≤ℤ o t z x) (sym e) (weak_of_zero (o t z z) (zero_last E o L t z))
closing_left E o L J t r z zn c h s sn (inr g) =
    by_place E s t sn c.top_in
    (λ p. closing E o L J t r z c h s sn p)
    (λ e. subst (λ x. pos 0 ≤ℤ o t z x) (sym e) (weak_of_zero (o t z t) (zero_ends E o L t z)))
    (λ p. weak_of_positive (o t z s) (c.beyond s sn p g))

older_left : (E : Setting) (o : ℕ → ℕ → ℕ → ℤ) → Laws E o → (J : ℕ → ℕ → Type 0) (t : ℕ) (r : List ℕ) (z : ℕ) → Reach (view E o) J t r z → Settled o t r z
    → (p q : ℕ) → Links t r p q → pos 0 ≤ℤ o p q z
older_left E o L J t [] z c h p q k = elim k [ ]
older_left E o L J t (a ∷ r) z c h p q (inl e) = at (λ x y. pos 0 ≤ℤ o x y z) a t p q e.0 e.1 h
older_left E o L J t (a ∷ r) z c h p q (inr k) =
    let s : Side (view E o) J (λ s. E.B s z) p q = c.chain.sides p q (inr k) in
    let first : Side (view E o) J (λ s. E.B s z) a t = c.chain.sides a t (inl (refl, refl)) in
    let hqt : E.B q t = up_to_before E q a t (link_below E a r (λ x y l. (let u : Side (view E o) J (λ s. E.B s z) x y = c.chain.sides x y (inr l) in u.before)) p q k) first.before in
    settled_side E o L p q t z s.before hqt c.top_before (s.left t c.top_in c.top_before) (closing E o L J t (a ∷ r) z c h q s.b_in hqt)

older_at : (E : Setting) (o : ℕ → ℕ → ℕ → ℤ) (J : ℕ → ℕ → Type 0) (z p q : ℕ) → Side (view E o) J (λ s. E.B s z) p q → pos 0 ≤ℤ o p q z → AllLeft (view E o) (λ s. UpTo E.B s z) p q
older_at E o J z p q s h u un (inl e) = subst (λ x. pos 0 ≤ℤ o p q x) (sym e) h
older_at E o J z p q s h u un (inr g) = s.left u un g

-- a chain that the new point closes
pub closed : (E : Setting) (o : ℕ → ℕ → ℕ → ℤ) → Laws E o → (J : ℕ → ℕ → Type 0) (t : ℕ) (r : List ℕ) (z : ℕ) → z < E.n → Reach (view E o) J t r z → Settled o t r z
    → Clear (view E o) t z → Chain (view E o) J (λ s. UpTo E.B s z) z (t ∷ r)
closed E o L J t r z zn c h clear = record {
  sides = λ p q k. elim k [
    | inl e ↦ at (λ x y. Side (view E o) J (λ s. UpTo E.B s z) x y) t z p q e.0 e.1
        (record { a_in = c.top_in; b_in = zn; before = c.top_before; b_seen = inl refl; joined = c.joined; left = closing_left E o L J t r z zn c h; clear = clear })
    | inr l ↦ (let s : Side (view E o) J (λ s. E.B s z) p q = c.chain.sides p q l in
        record {
          a_in = s.a_in;
          b_in = s.b_in;
          before = s.before;
          b_seen = inr s.b_seen;
          joined = s.joined;
          left = λ u un g. older_at E o J z p q s (older_left E o L J t r z c h p q l) u un g;
          clear = s.clear;
        })
  ];
  covers = λ i iN hiz. by_place E i t iN c.top_in
      (λ p. (let k : Covered E.B t r i = c.chain.covers i iN p in record { a = k.a; b = k.b; link = inr k.link; from = k.from; before = k.before }))
      (λ e. record { a = t; b = z; link = inl (refl, refl); from = inl (sym e); before = hiz })
      (λ p. record { a = t; b = z; link = inl (refl, refl); from = inr p; before = hiz });
}

finish_whole : (E : Setting) (o w : ℕ → ℕ → ℕ → ℤ) → Laws E o → Laws E w → (J : ℕ → ℕ → Type 0) (t : ℕ) (r : List ℕ) (t2 : ℕ) (r2 : List ℕ) (z last : ℕ)
    → Joining (view E o) (view E w) J (strand t r) (strand t2 r2) z last → Settled o t r z → Settled w t2 r2 z → (i j : ℕ) → i < E.n → j < E.n → E.B i j → UpTo E.B j z → Sweeps (view E o) i j → J i j
finish_whole E o w L M J t r t2 r2 z last m h h2 i j iN jn hij (inr g) k = m.older i j iN jn hij g k
finish_whole E o w L M J t r t2 r2 z last m h h2 i j iN jn hij (inl e) k =
    let hiz : E.B i z = subst (λ x. E.B i x) e hij in
    subst (λ x. J i x) (sym e) (elim (m.sees i iN hiz (subst (λ x. Sweeps (view E o) i x) e k)) [
      | inl g ↦ g
      | inr u ↦ elim u [
        | inl g ↦ no_low (o t z i) (closing_left E o L J t r z m.z_in m.lower h i iN (inr hiz)) g
        | inr g ↦ no_low (w t2 z i) (closing_left E w M J t2 r2 z m.z_in m.upper h2 i iN (inr hiz)) g
      ]
    ])

-- the new point is joined to all the points that it sees
pub finish : (E : Setting) (o w : ℕ → ℕ → ℕ → ℤ) → Laws E o → Laws E w → AreTurned o w → (J : ℕ → ℕ → Type 0) (t : ℕ) (r : List ℕ) (t2 : ℕ) (r2 : List ℕ) (z last : ℕ)
    → Joining (view E o) (view E w) J (strand t r) (strand t2 r2) z last → Settled o t r z → Settled w t2 r2 z → Whole (view E o) (view E w) J (t ∷ r) (t2 ∷ r2) z
finish E o w L M tr J t r t2 r2 z last m h h2 = record {
  z_in = m.z_in;
  lower = closed E o L J t r z m.z_in m.lower h (m.pairs.sweeps t z m.lower.joined m.lower.top_before).clear;
  upper = closed E w M J t2 r2 z m.z_in m.upper h2 (sweeps_turned E o w tr t2 z (m.pairs.sweeps t2 z m.upper.joined m.upper.top_before)).clear;
  pairs = m.pairs;
  met = m.met;
  apex = m.apex;
  whole = λ i j iN jn hij hj k. finish_whole E o w L M J t r t2 r2 z last m h h2 i j iN jn hij hj k;
}

-- the first point alone
pub first : (E : Setting) (o w : ℕ → ℕ → ℕ → ℤ) (J : ℕ → ℕ → Type 0) (z : ℕ) → z < E.n → ((s : ℕ) → s < E.n → ¬ E.B s z) → ((p q : ℕ) → ¬ J p q) → Whole (view E o) (view E w) J [] [] z
first E o w J z zn least none = record {
  z_in = zn;
  lower = record { sides = λ a b k. elim k [ ]; covers = λ i iN h. absurd (least i iN h) };
  upper = record { sides = λ a b k. elim k [ ]; covers = λ i iN h. absurd (least i iN h) };
  pairs = record { in_first = λ p q j. absurd (none p q j); up_to = λ p q j. absurd (none p q j); back = λ p q j. absurd (none p q j); differ = λ p q j. absurd (none p q j); sweeps = λ p q j h. absurd (none p q j) };
  met = λ s u sn hs un hu. absurd (least u un (before_up_to E u s z hu hs));
  apex = λ p q j. absurd (none p q j);
  whole = λ i j iN jn hij hj k. absurd (least i iN (before_up_to E i j z hij hj));
}
