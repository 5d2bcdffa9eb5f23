use Rattle.std.proofs.Common.{ℕ, ◌<◌}
use Rattle.std.specs.Prelude.{slice_index}
use Rattle.plane.specs.Geometry.{point, IsClear}
use Rattle.star.specs.Turn.{IsUpper}
use Rattle.directions.specs.Bits.{IsGrown, HasPair}
use Rattle.directions.proofs.clear.mark_above.Given as goal

abbrev pub invariant-loop-i : goal.invariant-loop-i
invariant-loop-i l = record {
  grown : IsGrown l.points l.initial.table.items l.table.items;
  there : (j : ℕ) → j < l.i → IsUpper (point l.points l.p) (point l.points (slice_index l.list j)) → IsClear l.points l.p (slice_index l.list j) → HasPair l.p (slice_index l.list j) l.table.items;
}
