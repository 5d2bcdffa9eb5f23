use Rattle.dual_prices.specs.Tables.{IsPartlyAdded}
use Rattle.dual_prices.proofs.loads.shift_counted.Given as goal

abbrev pub invariant-loop-r : goal.invariant-loop-r
invariant-loop-r l = IsPartlyAdded l.points l.row l.p l.by l.r l.initial.table.items l.table.items
