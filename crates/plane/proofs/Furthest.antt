-- A walk over all points that keeps one furthest out in a direction.
use Rattle.std.proofs.Common.{◌≡◌, ℕ, ◌<◌, ◌+◌, List, length, ℤ, ◌<ℤ◌, ◌≤ℤ◌, arith, subst₂, below_more}
use Rattle.std.proofs.lemmas.Int.{ints}
use Rattle.plane.specs.declared.coordinates.Point.{Point}
use Rattle.plane.specs.declared.guides.Direction.{Direction}
use Rattle.plane.specs.Geometry.{point}
use Rattle.plane.specs.Guides.{reach_of}

-- the point b is furthest out of those below k
pub record IsBest (S : List Point) (d : Direction) (b k : ℕ) : Type 0 where
  pub within : b < length S
  pub furthest : (i : ℕ) → i < k → reach_of d (point S i) ≤ℤ reach_of d (point S b)

pub moves : (S : List Point) (d : Direction) (b k : ℕ) (r s : ℤ) → k < length S → r ≡ reach_of d (point S k) → s ≡ reach_of d (point S b) → s <ℤ r → IsBest S d b k → IsBest S d k (k + 1)
moves S d b k r s hk er es more best = record {
  within = hk;
  furthest = below_more (λ i. reach_of d (point S i) ≤ℤ reach_of d (point S k)) k (λ i h. let l = best.furthest i h in omega (arith, ints)) (omega (arith, ints));
}

pub stays : (S : List Point) (d : Direction) (b k : ℕ) (r s : ℤ) → r ≡ reach_of d (point S k) → s ≡ reach_of d (point S b) → r ≤ℤ s → IsBest S d b k → IsBest S d b (k + 1)
stays S d b k r s er es less best = record {
  within = best.within;
  furthest = below_more (λ i. reach_of d (point S i) ≤ℤ reach_of d (point S b)) k best.furthest (subst₂ (λ x y. x ≤ℤ y) er es less);
}
