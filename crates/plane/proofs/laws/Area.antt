-- How areas and scalar products change with the order of their points.
use Rattle.std.proofs.Common.{◌≡◌, pos, ◌-ℤ◌, neg_ℤ, arith}
use Rattle.std.proofs.lemmas.Int.{ints}
use Rattle.std.proofs.Math.IntN.{*ℤ_comm}
use Rattle.plane.specs.declared.coordinates.Point.{Point}
use Rattle.plane.specs.Geometry.{area, scalar}
use Rattle.number_laws.proofs.Crosses.{det_cycle, det_swap}

pub area_cycle : (p q r : Point) → area p q r ≡ area q r p
unfolding area
area_cycle p q r = det_cycle p.x p.y q.x q.y r.x r.y

pub area_swap : (p q r : Point) → area p q r ≡ neg_ℤ (area p r q)
unfolding area
area_swap p q r = det_swap p.x p.y q.x q.y r.x r.y

-- the line the other way round
pub area_back : (p q r : Point) → area p q r ≡ neg_ℤ (area q p r)
area_back p q r = let e = area_swap p q r in let f = area_cycle q p r in omega (arith, ints)

pub scalar_swap : (p q r : Point) → scalar p q r ≡ scalar p r q
unfolding scalar
scalar_swap p q r = let e = *ℤ_comm (q.x -ℤ p.x) (r.x -ℤ p.x) in let f = *ℤ_comm (q.y -ℤ p.y) (r.y -ℤ p.y) in omega (arith, ints)

-- the ends of a line are on it
pub area_first : (p q : Point) → area p q p ≡ pos 0
area_first p q = let e = area_cycle p q p in let f = area_swap p p q in let g = area_back p p q in omega (arith, ints)

pub area_second : (p q : Point) → area p q q ≡ pos 0
area_second p q = let e = area_swap p q q in omega (arith, ints)
