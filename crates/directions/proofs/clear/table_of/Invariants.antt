use Rattle.std.proofs.Common.{ℕ, ◌<◌, length}
use Rattle.directions.specs.Bits.{HasRoom, HasClearAlone, HasClearAbove}
use Rattle.directions.proofs.clear.table_of.Given as goal

abbrev pub invariant-loop-p : goal.invariant-loop-p
invariant-loop-p l = record {
  room : HasRoom (length l.points) l.table.items;
  alone : HasClearAlone l.points l.table.items;
  above : (a : ℕ) → a < l.p → HasClearAbove l.points a l.table.items;
}
