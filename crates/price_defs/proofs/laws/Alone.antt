-- A point that no two points have between them.
use Rattle.std.proofs.Common.{◌≡◌, ℕ, ◌<◌, inl, inr, List, length, subst, arith}
use Rattle.std.proofs.lemmas.Bool.{cases_lt}
use Rattle.plane.specs.declared.coordinates.Point.{Point}
use Rattle.plane.specs.Geometry.{point, IsBetween}
use Rattle.plane.proofs.laws.Along.{between_swap}
use Rattle.plane_laws.proofs.Nearest.{not_between_one}
use Rattle.price_defs.specs.Rows.{IsAlone}

pub alone_of_none : (S : List Point) (p : ℕ) → ((i j : ℕ) → i < j → j < length S → ¬ IsBetween S p i j) → IsAlone S p
alone_of_none S p none q r qn rn between = elim (cases_lt q r) [
  | inl h ↦ none q r h rn between
  | inr g ↦ elim (cases_lt r q) [
    | inl h ↦ none r q h qn (between_swap (point S p) (point S q) (point S r) between)
    | inr m ↦ (let e : q ≡ r = omega arith in not_between_one (point S p) (point S r) (subst (λ n. IsBetween S p n r) e between))
  ]
]
