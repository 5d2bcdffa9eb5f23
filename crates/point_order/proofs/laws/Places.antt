-- Of two points the sweep meets one before the other, or they are one.
use Rattle.std.proofs.Common.{◌≡◌, ℕ, ◌<◌, ◌⊎◌, inl, inr, sym, List, length}
use Rattle.std.proofs.lemmas.Bool.{cases_order}
use Rattle.plane.specs.declared.coordinates.Point.{Point}
use Rattle.plane.specs.Geometry.{point}
use Rattle.plane.specs.Accepted.{AreApart}
use Rattle.partition_defs.specs.Sweep.{IsSweptBefore}
use Rattle.plane_laws.proofs.Between.{by_order}
use Rattle.plane.proofs.laws.Line.{same_point}

pub index_same : (S : List Point) → AreApart S → (i j : ℕ) → i < length S → j < length S → point S i ≡ point S j → i ≡ j
index_same S apart i j hi hj e =
    elim (cases_order i j) [ inl f ↦ f | inr q ↦ elim q [ inl h ↦ absurd (apart i j h hj e) | inr h ↦ absurd (apart j i h hi (sym e)) ] ]

pub places : (S : List Point) → AreApart S → (i j : ℕ) → i < length S → j < length S → IsSweptBefore S i j ⊎ ((i ≡ j) ⊎ IsSweptBefore S j i)
places S apart i j hi hj =
    by_order (point S i) (point S j) (λ h. inl h) (λ ex ey. inr (inl (index_same S apart i j hi hj (same_point (point S i) (point S j) ex ey)))) (λ h. inr (inr h))
