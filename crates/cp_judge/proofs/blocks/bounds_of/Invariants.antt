use Rattle.std.proofs.Common.{◌<◌, ◌≤◌, ℕ}
use Rattle.plane.specs.Geometry.{point}
use Rattle.boxes.specs.Bounds.{HasNearCorners, IsWithin}
use Rattle.cp_judge.proofs.blocks.bounds_of.Given as goal

abbrev pub invariant-loop-k : goal.invariant-loop-k
invariant-loop-k l = record {
  near : HasNearCorners l.bounds;
  has : (k : ℕ) → l.from ≤ k → k < l.k → IsWithin l.bounds (point l.places k);
}
