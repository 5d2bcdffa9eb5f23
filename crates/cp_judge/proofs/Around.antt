-- Where the need of a point for each of its ends is met among them, the need for each other point is: of ends that are all
-- right of one line, the one furthest counterclockwise has none of them in the need for it.
use Rattle.std.proofs.Common.{◌≡◌, ◌≢◌, ◌<◌, ℕ, List, [], ◌∷◌, length, slice_index_or, pos, neg_ℤ, ◌<ℤ◌, ◌≤ℤ◌, ◌⊎◌, inl, inr, arith}
use Rattle.std.specs.List.{All, Contains}
use Rattle.std.proofs.lemmas.Int.{ints}
use Rattle.std.proofs.lemmas.List.Elements.{All-nil, All-cons, All-head, All-tail, All-contains, Contains-append_left, Contains-append_right, Contains-push, Contains-get_or}
use Rattle.plane.specs.declared.coordinates.Point.{Point}
use Rattle.plane.specs.Geometry.{point, area, scalar, orientation, IsBetween, IsInNeed}
use Rattle.plane.specs.Accepted.{AreApart}
use Rattle.number_laws.proofs.Products.{mul_neg, neg_mul}
use Rattle.plane.proofs.laws.Area.{area_swap, area_back, area_first}
use Rattle.plane.proofs.laws.Along.{other_side}
use Rattle.plane.proofs.laws.Border.{points_differ}
use Rattle.number_laws.proofs.Signs.{negative_or, positive_negative, zero_right, mul_weak, by_sign}
use Rattle.plane_laws.proofs.Separation.{weigh}
use Rattle.cp_judge.specs.Ends.{AreOthers, IsMetAmong, MeetsNeedsAmong}
use Rattle.cp_judge.proofs.Direction.{one_direction, left_along, opposite_along}

-- r is strictly right of the line from p to q
abbrev IsRight : List Point → (p q r : ℕ) → Type 0
IsRight S p q r = orientation S p q r <ℤ pos 0

-- r isn't strictly left of it
abbrev IsNotLeft : List Point → (p q r : ℕ) → Type 0
IsNotLeft S p q r = orientation S p q r ≤ℤ pos 0

-- between or not, of points in line
between_or : (S : List Point) (p q r : ℕ) → orientation S q p r ≡ pos 0 → IsBetween S p q r ⊎ ¬ IsBetween S p q r
between_or S p q r line = elim (negative_or (scalar (point S p) (point S q) (point S r))) [
  | inl h ↦ inl (line, h)
  | inr rest ↦ inr (λ on. elim rest [ inl z ↦ omega (arith, ints, on.1) | inr h ↦ omega (arith, ints, on.1) ])
]

-- the needs for two points in one direction have the same points
need_along : (S : List Point) (p q m r : ℕ) → AreApart S → p < length S → q < length S → m < length S → q ≢ p → m ≢ p
    → orientation S p q m ≡ pos 0 → ¬ IsBetween S p q m → IsInNeed S p m r → IsInNeed S p q r
need_along S p q m r apart hp hq hm qp mp line off need =
    let along = one_direction (point S p) (point S q) (point S m) (points_differ S q p apart hq hp qp) (points_differ S m p apart hm hp mp) line off in (
      need.0,
      elim need.1 [
        | inl left ↦ inl (left_along _ _ (point S p) (point S q) (point S m) (point S r) along left)
        | inr on ↦ inr (opposite_along _ _ (point S p) (point S q) (point S m) (point S r) along on)
      ],
    )

-- a point of E is in the need of p for q, or brings one that is, or is strictly right of the line from p to q
met_or_right : (S : List Point) (E : List ℕ) (p q m : ℕ) → AreApart S → p < length S → q < length S → q ≢ p → AreOthers S p E → Contains E m
    → IsMetAmong S E p m → IsMetAmong S E p q ⊎ IsRight S p q m
met_or_right S E p q m apart hp hq qp others at met =
    let other = All-contains (λ r. (r < length S) × (r ≢ p)) E m others at in
    by_sign (orientation S p q m)
    (λ left. inl (m, at, (other.1, inl left)))
    (λ line. inl (elim (between_or S p q m (let e = area_back (point S p) (point S q) (point S m) in omega (arith, ints))) [
      | inl on ↦ (m, at, (other.1, inr on))
      | inr off ↦ (met.0, met.1, need_along S p q m met.0 apart hp hq other.0 qp other.1 line off met.2)
    ]))
    (λ right. inr right)

-- one of two, of each element
either_all : (P : Type 0) (Q : ℕ → Type 0) (xs : List ℕ) → All (λ x. P ⊎ Q x) xs → P ⊎ All Q xs
either_all P Q [] h = inr (All-nil Q)
either_all P Q (x ∷ xs) h = elim (All-head (λ x. P ⊎ Q x) x xs h) [
  | inl a ↦ inl a
  | inr b ↦ elim (either_all P Q xs (All-tail (λ x. P ⊎ Q x) x xs h)) [ inl a ↦ inl a | inr c ↦ inr (All-cons Q x xs b c) ]
]

-- among points right of one line through p: what isn't left of m isn't left of a point that is left of m
further_right : (p q m r s : Point) → area p q m <ℤ pos 0 → area p q r <ℤ pos 0 → area p q s <ℤ pos 0 → area p m s ≤ℤ pos 0 → pos 0 <ℤ area p m r → area p r s ≤ℤ pos 0
further_right p q m r s hm hr hs ms mr =
    let e = weigh p q p m r s in
    let a = zero_right (area m r s) (area p q p) (area_first p q) in
    let b = mul_weak (neg_ℤ (area p m s)) (neg_ℤ (area p q r)) (omega (arith, ints)) (omega (arith, ints)) in
    let f = mul_neg (neg_ℤ (area p m s)) (area p q r) in
    let g = neg_mul (area p m s) (area p q r) in
    let c = positive_negative (area p m r) (area p q s) mr hs in
    by_sign (area p r s) (λ h. absurd (let d = positive_negative (area p r s) (area p q m) h hm in omega (arith, ints))) (λ z. omega (arith, ints)) (λ h. omega (arith, ints))

in_place : (p q : Point) → area p q q ≤ℤ pos 0
in_place p q = let e = area_swap p q q in omega (arith, ints)

-- of points right of one line through p, one has none on its left
furthest : (S : List Point) (p q x : ℕ) (xs : List ℕ) → All (IsRight S p q) (x ∷ xs)
    → (m : ℕ) × Contains (x ∷ xs) m × All (IsNotLeft S p m) (x ∷ xs)
furthest S p q x [] right = (x, Contains-push [] x, All-cons (IsNotLeft S p x) x [] (in_place (point S p) (point S x)) (All-nil (IsNotLeft S p x)))
furthest S p q x (y ∷ ys) right =
    let later : All (IsRight S p q) (y ∷ ys) = All-tail (IsRight S p q) x (y ∷ ys) right in
    let first : IsRight S p q x = All-head (IsRight S p q) x (y ∷ ys) right in
    let (m, at, all) = furthest S p q y ys later in
    let stay : IsNotLeft S p m x → (m : ℕ) × Contains (x ∷ y ∷ ys) m × All (IsNotLeft S p m) (x ∷ y ∷ ys) =
    λ h. (m, Contains-append_right (x ∷ []) (y ∷ ys) m at, All-cons (IsNotLeft S p m) x (y ∷ ys) h all) in
    by_sign (orientation S p m x)
    (λ left. (
      x,
      Contains-append_left (x ∷ []) (y ∷ ys) x (Contains-push [] x),
      All-cons (IsNotLeft S p x) x (y ∷ ys) (in_place (point S p) (point S x))
          (λ k d l. further_right (point S p) (point S q) (point S m) (point S x) (point S (slice_index_or (y ∷ ys) k d)) (All-contains (IsRight S p q) (y ∷ ys) m later at) first (later k d l) (all k d l) left),
    ))
    (λ z. stay (omega (arith, ints))) (λ h. stay (omega (arith, ints)))

-- not all points of E are right of a line through p, where the need of p for each is met among them
not_all_right : (S : List Point) (E : List ℕ) (p q : ℕ) → 0 < length E → All (IsMetAmong S E p) E → ¬ All (IsRight S p q) E
not_all_right S [] p q some met right = omega arith
not_all_right S (x ∷ xs) p q some met right =
    let (m, at, all) = furthest S p q x xs right in
    let (r, there, need) = All-contains (IsMetAmong S (x ∷ xs) p) (x ∷ xs) m met at in
    let right_m : IsRight S p q m = All-contains (IsRight S p q) (x ∷ xs) m right at in
    let right_r : IsRight S p q r = All-contains (IsRight S p q) (x ∷ xs) r right there in
    let near : IsNotLeft S p m r = All-contains (IsNotLeft S p m) (x ∷ xs) r all there in
    elim need.1 [
      | inl left ↦ omega (arith, ints)
      | inr on ↦ (let far = other_side (point S p) (point S m) (point S r) (point S q) on right_r in omega (arith, ints))
    ]

-- where E has a point, and the need of p for each point of E is met among E, the need for each other point is
pub met_around : (S : List Point) (E : List ℕ) (p : ℕ) → AreApart S → p < length S → AreOthers S p E → 0 < length E → All (IsMetAmong S E p) E → MeetsNeedsAmong S E p
met_around S E p apart hp others some met q hq qp =
    let place : All (λ m. IsMetAmong S E p q ⊎ IsRight S p q m) E =
    λ k d l. let at = Contains-get_or E k d l in met_or_right S E p q (slice_index_or E k d) apart hp hq qp others at (met k d l) in
    elim (either_all (IsMetAmong S E p q) (IsRight S p q) E place) [
      | inl h ↦ h
      | inr right ↦ absurd (not_all_right S E p q some met right)
    ]

-- nothing is met where there is no end
pub none_met : (S : List Point) (E : List ℕ) (p q : ℕ) → length E ≡ 0 → ¬ IsMetAmong S E p q
none_met S E p q none met = let within = met.1.1 in omega arith
