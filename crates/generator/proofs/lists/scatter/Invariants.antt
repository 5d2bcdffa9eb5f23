use Rattle.std.proofs.Common.{◌≡◌, ◌+◌, ◌*◌, ◌<◌, ℕ, vec_len}
use Rattle.plane.specs.Geometry.{point}
use Rattle.generator.specs.Words.{at_position}
use Rattle.generator.specs.Kinds.{scatter_point}
use Rattle.generator.proofs.lists.scatter.Given as goal

abbrev pub invariant-loop-j : goal.invariant-loop-j
invariant-loop-j l = record {
  count : vec_len l.list ≡ l.j + 3;
  words : l.words ≡ at_position l.seed (2 * l.j);
  each : (k : ℕ) → k < l.j + 3 → point l.list.items k ≡ scatter_point l.n l.seed k;
}
