-- A written instance is within what is read back.
use Rattle.std.proofs.Common.{◌≡◌, ℕ, zero, suc, [], ◌∷◌, ◌^◌, ◌<◌, ◌≤◌, List, length, map, get_or, ℤ, pos, negsuc, unsigned_abs, All, true, false, cond, Some, unwrap_or, refl, sym, ap, ◌∙◌, subst, arith, inl, inr}
use Rattle.std.specs.Map.{lookup}
use Rattle.std.proofs.lemmas.Bool.Decides.{nat_tests}
use Rattle.std.proofs.lemmas.List.{length-map, get_or-map}
use Rattle.serde_json.specs.Find.{of_integer}
use Rattle.plane.specs.declared.coordinates.Point.{Point}
use Rattle.plane.specs.declared.segment.Pair.{Pair}
use Rattle.plane.specs.Geometry.{point}
use Rattle.plane.proofs.laws.Pairs.{pair_same}
use Rattle.plane.specs.Accepted.{AreNear}
use Rattle.cost_defs.specs.Costs.{Costed, IsCostedBefore, has_ends, cost, AreCosts}
use Rattle.text_defs.specs.Costs.{CostItem, is_same_pair, item_cost}
use Rattle.text_defs.proofs.laws.IsPlain.{IsWhole64, IsPlace, IsEdge, IsCosted}
use Rattle.text_defs.proofs.laws.Costs.{AreApart}
use Rattle.instance_io.specs.Refusal.{coordinates, ends, cost_item, AreCostsOf}

near : (z : ℤ) → unsigned_abs z < 2 ^ 63 → IsWhole64 (of_integer z)
near (pos n) h = omega (arith, h)
near (negsuc n) h = omega (arith, h)

pub near_places : (S : List Point) → AreNear S → All IsPlace (map coordinates S)
near_places S h k d l =
    let b : k < length S = omega (arith, length-map S coordinates, l) in
    let p = h k b in
    subst IsPlace (sym (get_or-map coordinates S k (record { x = pos 0; y = pos 0 }) d b)) (near (point S k).x (omega (arith, p.0)), near (point S k).y (omega (arith, p.1)))

-- pairs below n
pub ends_below : (n : ℕ) (K : List Pair) → All (λ e. e.hi < n) K → All (IsEdge n) (map ends K)
ends_below n [] h k d l = absurd (omega (arith, l))
ends_below n (e ∷ K) h zero d l = (e.ordered, h 0 e (omega arith))
ends_below n (e ∷ K) h (suc k) d l = ends_below n K (λ j f m. h (suc j) f (omega arith)) k d (omega (arith, l))

-- costs of pairs below n
pub costs_below : (n : ℕ) (D : List Costed) → All (λ x. x.1 ≤ 1000) D → All (λ x. x.0.hi < n) D → All (IsCosted n) (map cost_item D)
costs_below n [] c h k d l = absurd (omega (arith, l))
costs_below n (x ∷ D) c h zero d l = ((x.0.ordered, h 0 x (omega arith)), c 0 x (omega arith))
costs_below n (x ∷ D) c h (suc k) d l = costs_below n D (λ j f m. c (suc j) f (omega arith)) (λ j f m. h (suc j) f (omega arith)) k d (omega (arith, l))

before_apart : (x y : Costed) → IsCostedBefore x y → is_same_pair (ends y.0) (ends x.0) ≡ false
before_apart x y (inl h) = grind (arith, nat_tests)
before_apart x y (inr h) = grind (arith, nat_tests)

pub costs_apart : (D : List Costed) → AreCosts D → AreApart (map cost_item D)
costs_apart D h i j d l m =
    let len = length-map D cost_item in
    let e : Costed = (record { lo = 0; hi = 1; ordered = omega arith }, 0) in
    let a : get_or (map cost_item D) i d ≡ cost_item (get_or D i e) = get_or-map cost_item D i e d (omega (arith, len, l, m)) in
    let b : get_or (map cost_item D) j d ≡ cost_item (get_or D j e) = get_or-map cost_item D j e d (omega (arith, len, m)) in
    let apart = before_apart (get_or D i e) (get_or D j e) (h.ascending i j e l (omega (arith, len, m))) in
    subst (λ (x : CostItem). is_same_pair (get_or (map cost_item D) j d).0 x.0 ≡ false) (sym a) (subst (λ (y : CostItem). is_same_pair y.0 (ends (get_or D i e).0) ≡ false) (sym b) apart)

same_test : (e : Pair) (i j : ℕ) → i < j → has_ends e i j ≡ is_same_pair (i, j) (ends e)
same_test e i j h = let o = e.ordered in grind (arith, nat_tests)

same_cost : (D : List Costed) (i j : ℕ) → i < j → cost D i j ≡ item_cost (map cost_item D) i j
same_cost [] i j h = refl
same_cost (x ∷ D) i j h =
    elim (is_same_pair (i, j) (ends x.0)) as (λ b. is_same_pair (i, j) (ends x.0) ≡ b → cost (x ∷ D) i j ≡ unwrap_or (cond b (Some x.1) (lookup (is_same_pair (i, j)) (map cost_item D))) 1) [
      | true ↦ λ e. rw (same_test x.0 i j h, e) refl
      | false ↦ λ e. rw (same_test x.0 i j h, e) (same_cost D i j h)
    ] refl

-- costs are those of their own items
pub costs_of_own : (D : List Costed) → AreCosts D → AreCostsOf (map cost_item D) D
costs_of_own D h = record { costs = h; same = λ i j l. same_cost D i j l }

-- pairs with the same ends are the same
pub ends_once : (K L : List Pair) → map ends K ≡ map ends L → K ≡ L
ends_once [] [] h = refl
ends_once [] (f ∷ L) h = absurd (grind (arith, h))
ends_once (e ∷ K) [] h = absurd (grind (arith, h))
ends_once (e ∷ K) (f ∷ L) h =
    let head : ends e ≡ ends f = ap head_of h in
    let same : e ≡ f = pair_same e f (ap (λ (p : ℕ × ℕ). p.0) head) (ap (λ (p : ℕ × ℕ). p.1) head) in
    ap (λ x. x ∷ K) same ∙ ap (λ xs. f ∷ xs) (ends_once K L (ap tail_of h))
  where
    head_of : List (ℕ × ℕ) → ℕ × ℕ
    head_of [] = (0, 0)
    head_of (x ∷ xs) = x

    tail_of : List (ℕ × ℕ) → List (ℕ × ℕ)
    tail_of [] = []
    tail_of (x ∷ xs) = xs
