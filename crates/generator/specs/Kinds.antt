-- The point lists that are made from a number, point by point. (This project's own.)
use Rattle.std.specs.Prelude.{◌≡◌, ℕ, zero, suc, ◌+◌, ◌*◌, ◌/◌, ◌%◌, ◌<◌, ◌≤◌, List, length, pos}
use Rattle.plane.specs.declared.coordinates.Point.{Point}
use Rattle.plane.specs.First.{IsLeast}
use Rattle.plane.specs.Geometry.{point}
use Rattle.generator.specs.declared.kinds.Kind.{Kind}
use Rattle.generator.specs.declared.kinds.Kind.TheVariants.{Scatter, Grid, Ring, Wide}
use Rattle.generator.specs.Words.{word}

abbrev pub place : (x y : ℕ) → Point
place x y = record { x = pos x; y = pos y }

-- the width of a scatter
abbrev pub width : (n : ℕ) → ℕ
width n = 1000 * n

-- A scatter has three corners, and then a point in each strip of 1,000 across, by two words.
abbrev pub scatter_point : (n seed k : ℕ) → Point
scatter_point n seed zero = place 0 0
scatter_point n seed (suc zero) = place (width n) 0
scatter_point n seed (suc (suc zero)) = place 0 (width n)
scatter_point n seed (suc (suc (suc j))) = place (1000 * (j + 1) + word seed (2 * j) % 1000) (1 + word seed (2 * j + 1) % width n)

-- m is the side of the grid of n points: the least number whose square is at least n
abbrev pub IsSide : (n m : ℕ) → Type 0
IsSide n m = IsLeast (λ j. n ≤ j * j) (n + 1) m

-- A grid has rows of as many points as its side has, 10 apart.
abbrev pub grid_point : (m k : ℕ) → Point
grid_point m k = place (10 * (k % m)) (10 * (k / m))

-- A ring lies on a parabola.
abbrev pub ring_point : (k : ℕ) → Point
ring_point k = place k (k * k)

-- A wide instance lies on a parabola too, with coordinates far apart.
abbrev pub wide_point : (k : ℕ) → Point
wide_point k = place (1099511627776 * k) (68719476736 * k * k)

-- the point with this index
abbrev pub made_point : Kind → (n m seed k : ℕ) → Point
made_point Scatter n m seed k = scatter_point n seed k
made_point Grid n m seed k = grid_point m k
made_point Ring n m seed k = ring_point k
made_point Wide n m seed k = wide_point k

-- the points of a kind: as many as asked for, each as said
pub record AreMade (kind : Kind) (n seed : ℕ) (S : List Point) : Type 0 where
  pub count : length S ≡ n
  pub each : (m k : ℕ) → IsSide n m → k < n → point S k ≡ made_point kind n m seed k
