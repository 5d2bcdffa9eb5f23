use Rattle.std.proofs.Common.{◌≡◌, ◌<◌, ℕ, vec_len}
use Rattle.plane.specs.Geometry.{point}
use Rattle.generator.specs.Kinds.{wide_point}
use Rattle.generator.proofs.lists.wide.Given as goal

abbrev pub invariant-loop-k : goal.invariant-loop-k
invariant-loop-k l = record { count : vec_len l.list ≡ l.k; each : (k : ℕ) → k < l.k → point l.list.items k ≡ wide_point k }
