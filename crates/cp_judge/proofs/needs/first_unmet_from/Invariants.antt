use Rattle.std.proofs.Common.{◌<◌, ◌≤◌, ℕ, length}
use Rattle.plane.specs.Geometry.{IsInner}
use Rattle.partition_defs.specs.Partition.{MeetsNeedsAt}
use Rattle.cp_judge.proofs.needs.first_unmet_from.Given as goal

abbrev pub invariant-loop-p : goal.invariant-loop-p
invariant-loop-p l = record {
  within : l.from ≤ length l.ends;
  met : (p : ℕ) → p < l.p → IsInner l.points p → MeetsNeedsAt l.points l.list p;
}
