-- What the front says when all points are in it.
use Rattle.std.proofs.Common.{◌≡◌, ◌≢◌, ℕ, ℤ, pos, neg_ℤ, ◌<◌, ◌⊎◌, inl, inr, sym, subst, subst₂, List, arith}
use Rattle.std.specs.Prelude.{◌<ℤ◌, ◌≤ℤ◌}
use Rattle.std.proofs.lemmas.Int.{ints}
use Rattle.triangulate.proofs.Field.{Setting, Laws, AreTurned, by_place, before_up_to, zero_last}
use Rattle.plane.proofs.laws.Opposite.{opposite_neg}
use Rattle.triangulate.proofs.Sides.{one_side}
use Rattle.triangulate.specs.Sides.{UpTo, Clear, Cross}
use Rattle.triangulate.specs.Front.{Links, Side, Covered, Chain, Sweeps, Apex, Pairs, Met, Whole}
use Rattle.number_laws.proofs.Signs.{zero_of_neg}
use Rattle.triangulate.proofs.Field.{view}

-- all points are in the front
abbrev pub All : (E : Setting) (z : ℕ) → Type 0
All E z = (s : ℕ) → s < E.n → UpTo E.B s z

-- a pair with all points left of it is a side of the chain
pub on_chain : (E : Setting) (o : ℕ → ℕ → ℕ → ℤ) → Laws E o → (J : ℕ → ℕ → Type 0) (z : ℕ) (r : List ℕ) → Chain (view E o) J (λ s. UpTo E.B s z) z r → All E z
    → (i j : ℕ) → i < E.n → j < E.n → E.B i j → Clear (view E o) i j → ((s : ℕ) → s < E.n → pos 0 ≤ℤ o i j s) → Links z r i j
on_chain E o L J z r c all i j iN jn hij clear left =
    let k : Covered E.B z r i = c.covers i iN (before_up_to E i j z hij (all j jn)) in
    let s : Side (view E o) J (λ s. UpTo E.B s z) k.a k.b = c.sides k.a k.b k.link in
    let e : (k.a ≡ i) × (k.b ≡ j) = one_side E o L (λ s. UpTo E.B s z) all k.a k.b i j s.a_in s.b_in iN jn s.before s.left s.clear hij (λ u un h. left u un) clear k.from k.before in
    subst₂ (λ x y. Links z r x y) e.0 e.1 k.link

clash_left : {P : Type 0} (x y : ℤ) → y ≡ neg_ℤ x → pos 0 <ℤ x → pos 0 ≤ℤ y → P
clash_left x y e g h = absurd (omega (arith, ints))

-- each pair with a point left of it has its apex
pub apex_of : (E : Setting) (o w : ℕ → ℕ → ℕ → ℤ) → Laws E o → AreTurned o w → (J : ℕ → ℕ → Type 0) (r r2 : List ℕ) (z : ℕ) → Whole (view E o) (view E w) J r r2 z → All E z
    → (p q s : ℕ) → J p q → s < E.n → pos 0 <ℤ o p q s → Apex (view E o) J p q
apex_of E o w L tr J r r2 z m all p q s j sn h = elim (m.apex p q j) [
  | inl x ↦ x
  | inr x ↦ elim x [
    | inl k ↦ (let d : Side (view E o) J (λ s. UpTo E.B s z) q p = m.lower.sides q p k in clash_left (o p q s) (o q p s) (L.swap p q s) h (d.left s sn (all s sn)))
    | inr k ↦ (let d : Side (view E w) J (λ s. UpTo E.B s z) p q = m.upper.sides p q k in clash_left (o p q s) (w p q s) (tr p q s) h (d.left s sn (all s sn)))
  ]
]

pub clear_turned : (E : Setting) (o w : ℕ → ℕ → ℕ → ℤ) → AreTurned o w → (i j : ℕ) → Clear (view E o) i j → Clear (view E w) i j
clear_turned E o w tr i j h s sn p q e = h s sn p q (zero_of_neg (w i s j) (o i s j) (tr i s j) e)

weak_turned : (x y v : ℤ) → v ≡ neg_ℤ x → y ≡ neg_ℤ x → pos 0 ≤ℤ v → pos 0 ≤ℤ y
weak_turned x y v e f h = omega (arith, ints)

-- a pair that has all points on one side is a side of one of the chains
pub border_of : (E : Setting) (o w : ℕ → ℕ → ℕ → ℤ) → Laws E o → Laws E w → AreTurned o w → (J : ℕ → ℕ → Type 0) (r r2 : List ℕ) (z : ℕ) → Whole (view E o) (view E w) J r r2 z → All E z
    → (i j : ℕ) → i < E.n → j < E.n → E.B i j → Clear (view E o) i j
    → ((s : ℕ) → s < E.n → pos 0 ≤ℤ o i j s) ⊎ ((s : ℕ) → s < E.n → pos 0 ≤ℤ o j i s) → Links z r i j ⊎ Links z r2 i j
border_of E o w L M tr J r r2 z m all i j iN jn hij clear (inl left) =
    inl (on_chain E o L J z r m.lower all i j iN jn hij clear left)
border_of E o w L M tr J r r2 z m all i j iN jn hij clear (inr left) =
    inr (on_chain E w M J z r2 m.upper all i j iN jn hij (clear_turned E o w tr i j clear)
    (λ s sn. weak_turned (o i j s) (w i j s) (o j i s) (L.swap i j s) (tr i j s) (left s sn)))

pub linked : (E : Setting) (o w : ℕ → ℕ → ℕ → ℤ) (J : ℕ → ℕ → Type 0) (r r2 : List ℕ) (z : ℕ) → Whole (view E o) (view E w) J r r2 z → (i j : ℕ) → Links z r i j ⊎ Links z r2 i j → J i j
linked E o w J r r2 z m i j (inl k) = (let d : Side (view E o) J (λ s. UpTo E.B s z) i j = m.lower.sides i j k in d.joined)
linked E o w J r r2 z m i j (inr k) = (let d : Side (view E w) J (λ s. UpTo E.B s z) i j = m.upper.sides i j k in d.joined)

met_below : (E : Setting) (o : ℕ → ℕ → ℕ → ℤ) (J : ℕ → ℕ → Type 0) (z : ℕ) (r : List ℕ) → Chain (view E o) J (λ s. UpTo E.B s z) z r → Met E.n E.B J z → (p : ℕ) → p < E.n → E.B p z → (q : ℕ) × J p q
met_below E o J z r c met p pn h =
    let k : Covered E.B z r p = c.covers p pn h in
    let s : Side (view E o) J (λ s. UpTo E.B s z) k.a k.b = c.sides k.a k.b k.link in
    elim k.from [ inl e ↦ (k.b, subst (λ x. J x k.b) e s.joined) | inr g ↦ met p k.a pn (inr h) s.a_in g ]

-- each point is in some pair
pub met_of : (E : Setting) (o w : ℕ → ℕ → ℕ → ℤ) (J : ℕ → ℕ → Type 0) (r r2 : List ℕ) (z : ℕ) → Whole (view E o) (view E w) J r r2 z → All E z
    → (u : ℕ) → u < E.n → u ≢ z → (p : ℕ) → p < E.n → (q : ℕ) × J p q
met_of E o w J r r2 z m all u un hu p pn = elim (all p pn) [
  | inl e ↦ elim (all u un) [ inl f ↦ absurd (hu f) | inr g ↦ m.met p u pn (inl e) un (subst (λ x. E.B u x) (sym e) g) ]
  | inr h ↦ met_below E o J z r m.lower m.met p pn h
]

-- no two of the pairs cross
cross_back : (o : ℕ → ℕ → ℕ → ℤ) (a b c d : ℕ) → Cross o a b c d → Cross o c d a b
cross_back o a b c d h = (h.1, h.0)

cross_first : (E : Setting) (o : ℕ → ℕ → ℕ → ℤ) → Laws E o → (a b c d : ℕ) → Cross o a b c d → Cross o b a c d
cross_first E o L a b c d h = (
  opposite_neg (o a b c) (o a b d) (o b a c) (o b a d) (L.swap a b c) (L.swap a b d) h.0,
  elim h.1 [ inl g ↦ inr (g.1, g.0) | inr g ↦ inl (g.1, g.0) ],
)

clash_zero : (x : ℤ) → x ≡ pos 0 → (pos 0 <ℤ x) ⊎ (x <ℤ pos 0) → ⊥
clash_zero x e (inl h) = omega (arith, ints)
clash_zero x e (inr h) = omega (arith, ints)

cross_none : (E : Setting) (o : ℕ → ℕ → ℕ → ℤ) → Laws E o → (p q k : ℕ) → ¬ Cross o p q k q
cross_none E o L p q k h = elim h.0 [ inl g ↦ clash_zero (o p q q) (zero_last E o L p q) (inl g.1) | inr g ↦ clash_zero (o p q q) (zero_last E o L p q) (inr g.1) ]

plane_ordered : (E : Setting) (o : ℕ → ℕ → ℕ → ℤ) → Laws E o → (J : ℕ → ℕ → Type 0) (z : ℕ) → Pairs (view E o) J z
    → (p q k l : ℕ) → J p q → J k l → E.B p q → E.B k l → ¬ Cross o p q k l
plane_ordered E o L J z m p q k l j i hpq hkl c =
    let pn = m.in_first p q j in let qn = m.in_first q p (m.back p q j) in let kn = m.in_first k l i in let ln = m.in_first l k (m.back k l i) in
    by_place E q l qn ln
    (λ h. (let s : Sweeps (view E o) k l = m.sweeps k l i hkl in s.alone p q pn qn (E.trans p q l hpq h) h (cross_back o p q k l c)))
    (λ e. cross_none E o L p q k (subst (λ x. Cross o p q k x) (sym e) c))
    (λ h. (let s : Sweeps (view E o) p q = m.sweeps p q j hpq in s.alone k l kn ln (E.trans k l q hkl h) h c))

plane_second : (E : Setting) (o : ℕ → ℕ → ℕ → ℤ) → Laws E o → (J : ℕ → ℕ → Type 0) (z : ℕ) → Pairs (view E o) J z
    → (p q k l : ℕ) → J p q → J k l → E.B p q → ¬ Cross o p q k l
plane_second E o L J z m p q k l j i hpq c =
    let kn = m.in_first k l i in let ln = m.in_first l k (m.back k l i) in
    by_place E k l kn ln
    (λ h. plane_ordered E o L J z m p q k l j i hpq h c)
    (λ e. m.differ k l i e)
    (λ h. plane_ordered E o L J z m p q l k j (m.back k l i) hpq h (cross_back o l k p q (cross_first E o L k l p q (cross_back o p q k l c))))

pub plane_of : (E : Setting) (o : ℕ → ℕ → ℕ → ℤ) → Laws E o → (J : ℕ → ℕ → Type 0) (z : ℕ) → Pairs (view E o) J z
    → (p q k l : ℕ) → J p q → J k l → ¬ Cross o p q k l
plane_of E o L J z m p q k l j i c =
    let pn = m.in_first p q j in let qn = m.in_first q p (m.back p q j) in
    by_place E p q pn qn
    (λ h. plane_second E o L J z m p q k l j i h c)
    (λ e. m.differ p q j e)
    (λ h. plane_second E o L J z m q p k l (m.back p q j) i h (cross_first E o L p q k l c))
