-- A sorted list of the points with their indices is in the order of the sweep.
use Rattle.std.proofs.Common.{◌≡◌, ℕ, ◌<◌, ◌≤◌, inl, inr, sym, ◌∙◌, ap, ap₂, refl, subst, subst₂, List, length, get_or, map, Bool, true, false, arith, eqb, true≢false, is_lt}
use Rattle.std.specs.List.{All, Contains, IsDistinct}
use Rattle.std.specs.List.Sorted.{IsPermutation, IsSortedBy}
use Rattle.std.proofs.lemmas.List.{get_or-map, length-map}
use Rattle.std.proofs.lemmas.List.Sorted.{All-permutation, Contains-permutation, length_permutation, sorted_far, ranks_by}
use Rattle.std.proofs.lemmas.List.Elements.{All-get_or, All-from_get_or, Contains-get_or}
use Rattle.std.proofs.lemmas.Map.Keys.{IsDistinct-from_apart, apart_from_distinct, IsDistinct-IsPermutation}
use Rattle.std.proofs.lemmas.Int.{ints}
use Rattle.std.proofs.lemmas.Bool.Decides.{nat_tests}
use Rattle.plane.specs.declared.coordinates.Point.{Point}
use Rattle.plane.specs.Geometry.{point}
use Rattle.plane.specs.Accepted.{AreApart}
use Rattle.plane.proofs.laws.Order.{lex, lex_total}
use Rattle.plane_laws.specs.Order.{IsBefore}
use Rattle.partition_defs.specs.Sweep.{IsSweptBefore}
use Rattle.point_order.specs.Order.{IsSweepOrder}
use Rattle.point_order.specs.Placed.{ArePlaced}
use Rattle.point_order.proofs.laws.Places.{places}

lex_before : (p q : Point) → IsBefore p q → is_lt (lex p q) ≡ true
lex_before p q (inl h) = grind (arith, ints)
lex_before p q (inr h) = grind (arith, ints)

abbrev same_index : (e f : Point × ℕ) → Bool
same_index e f = eqb e.1 f.1

differ : (a b : ℕ) → a < b → eqb a b ≡ false
differ a b h = grind (arith, nat_tests)

eqb_flip : (a b : ℕ) → eqb a b ≡ eqb b a
eqb_flip a b = grind (arith, nat_tests)

same_true : (a b : ℕ) → a ≡ b → eqb a b ≡ true
same_true a b h = grind (arith, nat_tests)

placed_rising : (S : List Point) (apart : AreApart S) (e f : Point × ℕ) → e.1 < length S → e.0 ≡ point S e.1 → f.1 < length S → f.0 ≡ point S f.1
    → same_index e f ≡ false → is_lt (lex f.0 e.0) ≡ false → IsSweptBefore S e.1 f.1
placed_rising S apart e f he pe hf pf hn hl = elim (places S apart e.1 f.1 he hf) [
  | inl p ↦ p
  | inr q ↦ elim q [
    | inl g ↦ absurd (true≢false (sym (same_true e.1 f.1 g) ∙ hn))
    | inr g ↦ absurd (true≢false (sym (lex_before (point S f.1) (point S e.1) g) ∙ ap₂ (λ x y. is_lt (lex x y)) (sym pf) (sym pe) ∙ hl))
  ]
]

pub sorted_placed : (S : List Point) → AreApart S → (xs ys : List (Point × ℕ)) → length xs ≡ length S
    → ((k : ℕ) (d : Point × ℕ) → k < length S → get_or xs k d ≡ (point S k, k)) → IsPermutation xs ys
    → IsSortedBy (λ (e f : Point × ℕ). is_lt (lex e.0 f.0)) ys → ArePlaced S ys
sorted_placed S apart xs ys count each perm sorted =
    let d : Point × ℕ = (point S 0, 0) in
    let P : Point × ℕ → Type 0 = λ e. (e.1 < length S) × (e.0 ≡ point S e.1) in
    let own : All P xs = All-from_get_or P xs d (λ i h. (let hi : i < length S = omega arith in subst P (sym (each i d hi)) (hi, refl))) in
    let all : All P ys = All-permutation P xs ys perm own in
    let first : IsDistinct same_index xs = IsDistinct-from_apart same_index xs
    (λ i j e hij hj. (let hi : i < length S = omega arith in let hj2 : j < length S = omega arith in
    ap₂ same_index (each i e hi) (each j e hj2) ∙ differ i j hij)) in
    let distinct : IsDistinct same_index ys = IsDistinct-IsPermutation same_index (λ e f. eqb_flip e.1 f.1) xs ys perm first in
    record {
      count = length_permutation xs ys perm ∙ count;
      each = all;
      whole = λ i h. Contains-permutation xs ys (point S i, i) perm
          (let hx : i < length xs = omega arith in subst (λ e. Contains xs e) (each i d h) (Contains-get_or xs i d hx));
      rising = λ k m e hkm hm.
          (let hk : k < length ys = omega arith in
          let hle : k ≤ m = omega arith in
          let pk : P (get_or ys k e) = All-get_or P ys k e hk all in
          let pm : P (get_or ys m e) = All-get_or P ys m e hm all in
          placed_rising S apart (get_or ys k e) (get_or ys m e) pk.0 pk.1 pm.0 pm.1
          (apart_from_distinct same_index ys k m e distinct hkm hm)
          (sorted_far (λ (e f : Point × ℕ). is_lt (lex e.0 f.0)) (ranks_by lex_total (λ (e : Point × ℕ). e.0)) ys sorted k m e hle hm));
    }

index_at : (ys : List (Point × ℕ)) (k : ℕ) (d : Point × ℕ) → k < length ys → get_or (map (λ (e : Point × ℕ). e.1) ys) k 0 ≡ (get_or ys k d).1
index_at ys k d h = get_or-map (λ (e : Point × ℕ). e.1) ys k d 0 h

contains_index : (ys : List (Point × ℕ)) (e : Point × ℕ) → Contains ys e → Contains (map (λ (e : Point × ℕ). e.1) ys) e.1
contains_index ys e c = (
  c.0,
  subst (λ n. c.0 < n) (sym (length-map ys (λ (e : Point × ℕ). e.1))) c.1,
  get_or-map (λ (e : Point × ℕ). e.1) ys c.0 e e.1 c.1 ∙ ap (λ (e : Point × ℕ). e.1) c.2,
)

pub order_of_placed : (S : List Point) (ys : List (Point × ℕ)) (order : List ℕ) → order ≡ map (λ (e : Point × ℕ). e.1) ys → ArePlaced S ys → IsSweepOrder S order
order_of_placed S ys order same p =
    let d : Point × ℕ = (point S 0, 0) in
    let f : Point × ℕ → ℕ = λ e. e.1 in
    let len : length order ≡ length ys = ap length same ∙ length-map ys (λ (e : Point × ℕ). e.1) in
    let at : (k : ℕ) → k < length ys → get_or order k 0 ≡ (get_or ys k d).1 = λ k h. ap (λ xs. get_or xs k 0) same ∙ index_at ys k d h in
    record {
      count = len ∙ p.count;
      within = λ k hk. (let h : k < length ys = omega arith in subst (λ x. x < length S) (sym (at k h)) (p.each k d h).0);
      whole = λ i hi. (let c : Contains ys (point S i, i) = p.whole i hi in
          subst (λ xs. Contains xs i) (sym same) (contains_index ys (point S i, i) c));
      rising = λ k m hkm hm. (let h : m < length ys = omega arith in let hk : k < length ys = omega arith in
          subst₂ (λ x y. IsSweptBefore S x y) (sym (at k hk)) (sym (at m h)) (p.rising k m d hkm h));
    }
