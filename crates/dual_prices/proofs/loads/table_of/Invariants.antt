use Rattle.std.proofs.Common.{take}
use Rattle.dual_prices.specs.Tables.{IsTableOf}
use Rattle.dual_prices.proofs.loads.table_of.Given as goal

abbrev pub invariant-loop-k : goal.invariant-loop-k
invariant-loop-k l = IsTableOf l.points (take l.k l.rows) l.table.items
