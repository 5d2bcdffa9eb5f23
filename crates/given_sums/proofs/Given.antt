-- What a row gives, by the turn at its point.
use Rattle.std.proofs.Common.{◌≡◌, ◌≢◌, ℕ, ◌*◌, pos, inl, inr, List, true, false, Some, sym, ◌∙◌, ap, refl, subst, arith}
use Rattle.std.proofs.lemmas.Bool.{false≢true}
use Rattle.std.proofs.lemmas.Int.{ints}
use Rattle.plane.specs.declared.coordinates.Point.{Point}
use Rattle.plane.specs.declared.coordinates.Turn.{Turn}
use Rattle.plane.specs.declared.coordinates.Turn.TheVariants.{Left, Straight, Right}
use Rattle.plane.specs.Geometry.{point, area, IsTurn, LiesBetween}
use Rattle.plane.proofs.laws.Area.{area_back}
use Rattle.price_defs.specs.declared.row.Row.{Row}
use Rattle.price_defs.specs.declared.row.Row.TheVariants.{Half, Three}
use Rattle.price_defs.specs.Rows.{Counts, counts, stand}
use Rattle.price_defs.specs.Loads.{given}
use Rattle.price_defs.proofs.laws.Counted.{given_yes, given_no}
use Rattle.price_defs.proofs.laws.Tests.{counts_decides}
use Rattle.given_sums.specs.Sums.{IsAim, IsAhead}

-- no point is between where the turn is a real one
pub not_between : (p q r : Point) → (area p q r ≡ pos 0 → ⊥) → LiesBetween p q r → ⊥
not_between p q r turns b = turns (omega (arith, ints, area_back p q r, b.0))

pub weight_turned : (p q r : Point) (turn : Turn) (w one g : ℕ) → IsTurn turn (area p q r) → (turn ≡ Straight → ⊥) → (turn ≡ Left → one ≡ 1) → (turn ≢ Left → one ≡ 0) → g ≡ w * one
    → (IsAhead p q r → g ≡ w) × (¬ IsAhead p q r → g ≡ 0)
weight_turned p q r Left w one g t bends ahead apart e = (λ a. e ∙ ap (λ n. w * n) (ahead refl) ∙ omega arith, λ n. absurd (n (inl t)))
weight_turned p q r Straight w one g t bends ahead apart e = absurd (bends refl)
weight_turned p q r Right w one g t bends ahead apart e = (
  λ a. elim a [
    | inl h ↦ absurd (omega (arith, ints, h, t))
    | inr h ↦ absurd (not_between p q r (λ z. absurd (omega (arith, ints, z, t))) h)
  ],
  λ n. e ∙ ap (λ n. w * n) (apart (λ x. cc)) ∙ omega arith,
)

pub ahead_in_line : (p q r : Point) → area p q r ≡ pos 0 → IsAhead p q r → LiesBetween p q r
ahead_in_line p q r z (inl h) = absurd (omega (arith, ints, h, z))
ahead_in_line p q r z (inr h) = h

half_ahead : (S : List Point) (p q w r : ℕ) → r ≢ p → Counts S (Half p q w) p r → IsAhead (point S p) (point S q) (point S r)
half_ahead S p q w r ne (inl h) = h.1.1
half_ahead S p q w r ne (inr h) = absurd (ne h.0)

half_given : (S : List Point) (p q w r g : ℕ) → r ≢ p → (IsAhead (point S p) (point S q) (point S r) → g ≡ w) → (¬ IsAhead (point S p) (point S q) (point S r) → g ≡ 0) → g ≡ given S p r (Half p q w)
half_given S p q w r g ne ahead apart =
    elim (counts S (Half p q w) p r) as (λ t. counts S (Half p q w) p r ≡ t → g ≡ given S p r (Half p q w)) [
      | true ↦ λ e. (let h = (counts_decides S (Half p q w) p r).0 e in ahead (half_ahead S p q w r ne h) ∙ sym (given_yes S (Half p q w) p r h))
      | false ↦ λ e.
          apart (λ a. false≢true (sym e ∙ (counts_decides S (Half p q w) p r).1 (inl (refl, (ne, a)))))
          ∙ sym (given_no S (Half p q w) p r (λ h. false≢true (sym e ∙ (counts_decides S (Half p q w) p r).1 h)))
    ] refl

same_point : (p q : ℕ) → Some p ≡ Some q → p ≡ q
same_point p q e = cc

pub half_gives : (S : List Point) (row : Row) (p u q w r g : ℕ) (from aim : Point) → row ≡ Half u q w → stand row ≡ Some p → from ≡ point S p → IsAim S row aim → r ≢ p
    → (IsAhead from aim (point S r) → g ≡ w) → (¬ IsAhead from aim (point S r) → g ≡ 0) → g ≡ given S p r row
half_gives S row p u q w r g from aim e at from_is aim_is ne ahead apart =
    let up : u ≡ p = same_point u p (subst (λ x. stand x ≡ Some p) e at) in
    let rp : row ≡ Half p q w = e ∙ ap (λ n. Half n q w) up in
    let ai : aim ≡ point S q = subst (λ x. IsAim S x aim) e aim_is in
    let back : IsAhead (point S p) (point S q) (point S r) → IsAhead from aim (point S r) =
    λ h. subst (λ x. IsAhead x aim (point S r)) (sym from_is) (subst (λ x. IsAhead (point S p) x (point S r)) (sym ai) h) in
    let there : IsAhead from aim (point S r) → IsAhead (point S p) (point S q) (point S r) =
    λ h. subst (λ x. IsAhead (point S p) x (point S r)) ai (subst (λ x. IsAhead x aim (point S r)) from_is h) in
    subst (λ x. g ≡ given S p r x) (sym rp) (half_given S p q w r g ne (λ h. ahead (back h)) (λ n. apart (λ h. n (there h))))

pub three_gives : (S : List Point) (row : Row) (p u w r : ℕ) → row ≡ Three u w → stand row ≡ Some p → w ≡ given S p r row
three_gives S row p u w r e at =
    let up : u ≡ p = same_point u p (subst (λ x. stand x ≡ Some p) e at) in
    subst (λ x. w ≡ given S p r x) (sym (e ∙ ap (λ n. Three n w) up)) (sym (given_yes S (Three p w) p r (inl refl)))
