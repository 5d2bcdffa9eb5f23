-- The two sides of a line through two points.
use Rattle.std.proofs.Common.{◌<◌, ℕ, List, length, arith}
use Rattle.std.proofs.lemmas.Int.{ints}
use Rattle.plane.specs.declared.coordinates.Point.{Point}
use Rattle.plane.specs.Geometry.{point, orientation, HasAllLeft}
use Rattle.plane.proofs.laws.Area.{area_back}
use Rattle.plane_laws.proofs.Field.{by_high}
use Rattle.partition_defs.specs.Triangulation.{HasLeft}

-- where no point is on one side, all are on the other or on the line
pub all_behind : (S : List Point) (p q : ℕ) → ¬ HasLeft S p q → HasAllLeft S q p
all_behind S p q none k hk = by_high (orientation S p q k) (λ h. absurd (none (k, hk, h))) (λ h. (let e = area_back (point S q) (point S p) (point S k) in omega (arith, ints)))
