-- Joining the new point to one more point, to its first point, and the end of joining.
use Rattle.std.proofs.Common.{◌≡◌, ◌≢◌, ℕ, ℤ, pos, neg_ℤ, ◌<◌, ◌⊎◌, inl, inr, sym, refl, subst, subst₂, List, ◌∷◌, arith}
use Rattle.std.specs.Prelude.{◌<ℤ◌, ◌≤ℤ◌}
use Rattle.std.proofs.lemmas.Int.{ints}
use Rattle.triangulate.proofs.Field.{Setting, Laws, not_both, before_up_to, up_to_not_before, flip, zero_ends}
use Rattle.triangulate.proofs.Turns.{Spine, beyond_side, spine_side, no_crossing}
use Rattle.triangulate.proofs.Sides.{empty_next, empty_side}
use Rattle.triangulate.proofs.Adding.{Adds}
use Rattle.triangulate.proofs.Wedge.{wedge}
use Rattle.triangulate.specs.Sides.{UpTo, Beyond, Empty, AllLeft, Clear}
use Rattle.triangulate.specs.Front.{Links, Side, Covered, Chain, Reach, Sweeps, Apex, Pairs, From, Joining}
use Rattle.number_laws.proofs.Signs.{positive_of_neg, weak_of_positive}
use Rattle.number_laws.proofs.Signs.{weak_of_zero, positive_same}
use Rattle.triangulate.specs.Front.{strand}
use Rattle.triangulate.proofs.Field.{view}

-- at equal points
pub at : (P : ℕ → ℕ → Type 0) (a b p q : ℕ) → p ≡ a → q ≡ b → P a b → P p q
at P a b p q e f h = subst₂ P (sym e) (sym f) h

pub side_more : (E : Setting) (o : ℕ → ℕ → ℕ → ℤ) (J J2 : ℕ → ℕ → Type 0) (Q : ℕ → Type 0) → ((p q : ℕ) → J p q → J2 p q) → (a b : ℕ) → Side (view E o) J Q a b → Side (view E o) J2 Q a b
side_more E o J J2 Q f a b s = record { a_in = s.a_in; b_in = s.b_in; before = s.before; b_seen = s.b_seen; joined = f a b s.joined; left = s.left; clear = s.clear }

pub chain_more : (E : Setting) (o : ℕ → ℕ → ℕ → ℤ) (J J2 : ℕ → ℕ → Type 0) (Q : ℕ → Type 0) (t : ℕ) (r : List ℕ) → ((p q : ℕ) → J p q → J2 p q) → Chain (view E o) J Q t r → Chain (view E o) J2 Q t r
chain_more E o J J2 Q t r f c = record { sides = λ a b k. side_more E o J J2 Q f a b (c.sides a b k); covers = c.covers }

pub reach_more : (E : Setting) (o : ℕ → ℕ → ℕ → ℤ) (J J2 : ℕ → ℕ → Type 0) (t : ℕ) (r : List ℕ) (z : ℕ) → ((p q : ℕ) → J p q → J2 p q) → Reach (view E o) J t r z → Reach (view E o) J2 t r z
reach_more E o J J2 t r z f c = record {
  chain = chain_more E o J J2 (λ s. E.B s z) t r f c.chain;
  top_in = c.top_in;
  top_before = c.top_before;
  joined = f t z c.joined;
  beyond = c.beyond;
}

pub apex_more : (E : Setting) (o : ℕ → ℕ → ℕ → ℤ) (J J2 : ℕ → ℕ → Type 0) → ((p q : ℕ) → J p q → J2 p q) → (p q : ℕ) → Apex (view E o) J p q → Apex (view E o) J2 p q
apex_more E o J J2 f p q a = record { r = a.r; r_in = a.r_in; first = f p a.r a.first; second = f q a.r a.second; left = a.left; empty = a.empty }

pub met_more : (E : Setting) (J J2 : ℕ → ℕ → Type 0) → ((p q : ℕ) → J p q → J2 p q) → (u : ℕ) → (q : ℕ) × J u q → (q : ℕ) × J2 u q
met_more E J J2 f u h = (h.0, f u h.0 h.1)

-- a joined pair's two ends
pub pairs_add : (E : Setting) (o : ℕ → ℕ → ℕ → ℤ) → (J J2 : ℕ → ℕ → Type 0) (a z : ℕ) → a < E.n → z < E.n → E.B a z → Adds J J2 a z
    → Sweeps (view E o) a z → Pairs (view E o) J z → Pairs (view E o) J2 z
pairs_add E o J J2 a z an zn haz add new h = record {
  in_first = λ p q j. elim (add.only p q j) [ inl k ↦ h.in_first p q k | inr k ↦ elim k [ inl e ↦ at (λ x y. x < E.n) a z p q e.0 e.1 an | inr e ↦ at (λ x y. x < E.n) z a p q e.0 e.1 zn ] ];
  up_to = λ p q j. elim (add.only p q j) [ inl k ↦ h.up_to p q k | inr k ↦ elim k [ inl e ↦ at (λ x y. UpTo E.B x z) a z p q e.0 e.1 (inr haz) | inr e ↦ inl e.0 ] ];
  back = λ p q j. elim (add.only p q j) [ inl k ↦ add.old q p (h.back p q k) | inr k ↦ elim k [ inl e ↦ at (λ x y. J2 y x) a z p q e.0 e.1 add.back | inr e ↦ at (λ x y. J2 y x) z a p q e.0 e.1 add.new ] ];
  differ = λ p q j. elim (add.only p q j) [ inl k ↦ h.differ p q k | inr k ↦ elim k [ inl e ↦ at (λ x y. x ≢ y) a z p q e.0 e.1 (λ f. E.irrefl a (subst (λ x. E.B a x) (sym f) haz)) | inr e ↦ at (λ x y. x ≢ y) z a p q e.0 e.1 (λ f. E.irrefl a (subst (λ x. E.B a x) f haz)) ] ];
  sweeps = λ p q j hpq. elim (add.only p q j) [ inl k ↦ h.sweeps p q k hpq | inr k ↦ elim k [ inl e ↦ at (λ x y. Sweeps (view E o) x y) a z p q e.0 e.1 new | inr e ↦ not_both E p q hpq (at (λ x y. E.B y x) z a p q e.0 e.1 haz) ] ];
}

pub positive_turned : (x y : ℤ) → y ≡ neg_ℤ x → x ≡ pos 0 → pos 0 <ℤ y → ⊥
positive_turned x y e f g = omega (arith, ints)

-- the pair of a and z, where the points after a are left of it and a is on the chain
pub sweeps_new : (E : Setting) (o : ℕ → ℕ → ℕ → ℤ) → Laws E o → (a z : ℕ) → a < E.n → z < E.n → E.B a z → Beyond (view E o) a z → Spine (view E o) a z → Sweeps (view E o) a z
sweeps_new E o L a z an zn haz beyond spine = record {
  clear = λ s sn has hsz e. (let g : pos 0 <ℤ o a z s = beyond s sn has hsz in let f : o a z s ≡ neg_ℤ (o a s z) = flip E o L a s z in positive_turned (o a s z) (o a z s) f e g);
  alone = λ k l kn ln hk hl. no_crossing E o L a z k l an kn ln haz hk hl beyond spine;
}

covers_less : (E : Setting) (b a : ℕ) (r : List ℕ) (i : ℕ) → Covered E.B b (a ∷ r) i → E.B i a → Covered E.B a r i
covers_less E b a r i k hia = elim k.link [
  | inl e ↦ up_to_not_before E a i (subst (λ x. UpTo E.B x i) e.0 k.from) hia
  | inr l ↦ record { a = k.a; b = k.b; link = l; from = k.from; before = k.before }
]

side_new : (E : Setting) (o : ℕ → ℕ → ℕ → ℤ) → Laws E o → (a z last : ℕ) → a < E.n → last < E.n → E.B last z → UpTo E.B a last → Beyond (view E o) a z → pos 0 ≤ℤ o a z last
side_new E o L a z last an ln hl (inl e) far = subst (λ x. pos 0 ≤ℤ o a z x) e (weak_of_zero (o a z a) (zero_ends E o L a z))
side_new E o L a z last an ln hl (inr p) far = weak_of_positive (o a z last) (far last ln p hl)

step_apex : (E : Setting) (o w : ℕ → ℕ → ℕ → ℤ) → Laws E o → (J J2 : ℕ → ℕ → Type 0) (b a : ℕ) (r : List ℕ) (t2 : ℕ) (r2 : List ℕ) (z last : ℕ)
    → Joining (view E o) (view E w) J (strand b (a ∷ r)) (strand t2 r2) z last → a < E.n → b < E.n → pos 0 <ℤ o b a z → Empty (view E o) b a z → J a b → Adds J J2 a z
    → (p q : ℕ) → J2 p q → Apex (view E o) J2 p q ⊎ (Links z (a ∷ r) q p ⊎ Links z (t2 ∷ r2) p q)
step_apex E o w L J J2 b a r t2 r2 z last m an bn baz hollow jab add p q j =
    let ba : J2 b a = add.old b a (m.pairs.back a b jab) in
    let ab : J2 a b = add.old a b jab in
    let bz : J2 b z = add.old b z m.lower.joined in
    let zb : J2 z b = add.old z b (m.pairs.back b z m.lower.joined) in
    elim (add.only p q j) [
      | inl k ↦ elim (m.apex p q k) [
        | inl x ↦ inl (apex_more E o J J2 add.old p q x)
        | inr x ↦ elim x [
          | inl y ↦ elim y [
            | inl e ↦ inl (at (λ x y. Apex (view E o) J2 x y) z b p q e.1 e.0
                (record {
                  r = a;
                  r_in = an;
                  first = add.back;
                  second = ba;
                  left = positive_same (o b a z) (o z b a) (L.cycle z b a) baz;
                  empty = empty_next E o a z b (empty_next E o b a z hollow);
                }))
            | inr y2 ↦ elim y2 [
              | inl e ↦ inl (at (λ x y. Apex (view E o) J2 x y) b a p q e.1 e.0
                  (record { r = z; r_in = m.z_in; first = bz; second = add.new; left = baz; empty = hollow }))
              | inr y3 ↦ inr (inl (inr y3))
            ]
          ]
          | inr y ↦ inr (inr y)
        ]
      ]
      | inr k ↦ elim k [
        | inl e ↦ inl (at (λ x y. Apex (view E o) J2 x y) a z p q e.0 e.1
            (record { r = b; r_in = bn; first = ab; second = zb; left = positive_same (o b a z) (o a z b) (sym (L.cycle b a z)) baz; empty = empty_next E o b a z hollow }))
        | inr e ↦ inr (inl (inl (e.1, e.0)))
      ]
    ]

-- a sweep pair of z that isn't joined still lies beyond one of the two sides
step_sees : (E : Setting) (o w : ℕ → ℕ → ℕ → ℤ) → Laws E o → (J J2 : ℕ → ℕ → Type 0) (b a z i t2 : ℕ) → a < E.n → b < E.n → z < E.n → E.B a b → E.B b z
    → AllLeft (view E o) (λ s. E.B s z) a b → Clear (view E o) a b → o a b z <ℤ pos 0 → Beyond (view E o) a z → Adds J J2 a z → i < E.n → E.B i z → Sweeps (view E o) i z
    → J i z ⊎ ((o b z i <ℤ pos 0) ⊎ (w t2 z i <ℤ pos 0)) → J2 i z ⊎ ((o a z i <ℤ pos 0) ⊎ (w t2 z i <ℤ pos 0))
step_sees E o w L J J2 b a z i t2 an bn zn hab hbz left clear h far add iN hiz k (inl j) = inl (add.old i z j)
step_sees E o w L J J2 b a z i t2 an bn zn hab hbz left clear h far add iN hiz k (inr (inr g)) = inr (inr g)
step_sees E o w L J J2 b a z i t2 an bn zn hab hbz left clear h far add iN hiz k (inr (inl g)) =
    elim (wedge E o L a b z i an bn zn iN hab hbz hiz left clear h far k g) [
      | inl e ↦ inl (subst (λ x. J2 x z) (sym e) add.new)
      | inr p ↦ inr (inl p)
    ]

-- the last of the chain but one is joined, too
pub step : (E : Setting) (o w : ℕ → ℕ → ℕ → ℤ) → Laws E o → (J J2 : ℕ → ℕ → Type 0) (b a : ℕ) (r : List ℕ) (t2 : ℕ) (r2 : List ℕ) (z last : ℕ)
    → Joining (view E o) (view E w) J (strand b (a ∷ r)) (strand t2 r2) z last → o a b z <ℤ pos 0 → Adds J J2 a z → Joining (view E o) (view E w) J2 (strand a r) (strand t2 r2) z last
step E o w L J J2 b a r t2 r2 z last m h add =
    let c : Chain (view E o) J (λ s. E.B s z) b (a ∷ r) = m.lower.chain in
    let s : Side (view E o) J (λ s. E.B s z) a b = c.sides a b (inl (refl, refl)) in
    let haz : E.B a z = E.trans a b z s.before s.b_seen in
    let far : Beyond (view E o) a z = beyond_side E o L a b z s.b_in s.before s.b_seen s.left h in
    let hollow : Empty (view E o) b a z = empty_side E o L a b z s.a_in s.b_in m.z_in s.before s.b_seen s.left s.clear h in
    let baz : pos 0 <ℤ o b a z = positive_of_neg (o a b z) (o b a z) (L.swap a b z) h in
    record {
      z_in = m.z_in;
      last_in = m.last_in;
      last_before = m.last_before;
      last_next = m.last_next;
      lower = record {
        chain = record {
          sides = λ p q k. side_more E o J J2 (λ s. E.B s z) add.old p q (c.sides p q (inr k));
          covers = λ i iN hia. covers_less E b a r i (c.covers i iN (E.trans i a b hia s.before)) hia;
        };
        top_in = s.a_in;
        top_before = haz;
        joined = add.new;
        beyond = far;
      };
      upper = reach_more E w J J2 t2 r2 z add.old m.upper;
      pairs = pairs_add E o J J2 a z s.a_in m.z_in haz add (sweeps_new E o L a z s.a_in m.z_in haz far (spine_side E o L a b z s.b_in s.before s.b_seen s.left)) m.pairs;
      met = λ u v un hu vn hv. met_more E J J2 add.old u (m.met u v un hu vn hv);
      apex = step_apex E o w L J J2 b a r t2 r2 z last m s.a_in s.b_in baz hollow s.joined add;
      older = λ i j iN jn hij hjz k. add.old i j (m.older i j iN jn hij hjz k);
      sees = λ i iN hiz k. step_sees E o w L J J2 b a z i t2 s.a_in s.b_in m.z_in s.before s.b_seen s.left s.clear h far add iN hiz k (m.sees i iN hiz k);
      fresh = λ u j. elim (add.only u z j) [
        | inl k ↦ elim (m.fresh u k) [
          | inl f ↦ inl (record { from = inr (before_up_to E a b u s.before f.from); side = f.side })
          | inr f ↦ inr f
        ]
        | inr k ↦ elim k [
          | inl e ↦ inl (at (λ x y. From (view E o) a x z last) a z u z e.0 refl (record { from = inl refl; side = side_new E o L a z last s.a_in m.last_in m.last_before (m.last_next a s.a_in haz) far }))
          | inr e ↦ absurd (E.irrefl z (subst (λ x. E.B x z) (sym e.1) haz))
        ]
      ];
    }
