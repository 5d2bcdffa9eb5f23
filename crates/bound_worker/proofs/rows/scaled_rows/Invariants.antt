use Rattle.std.proofs.Common.{◌≡◌, take}
use Rattle.search_defs.specs.Priced.{scaled}
use Rattle.bound_worker.proofs.rows.scaled_rows.Given as goal

abbrev pub invariant-loop-row : goal.invariant-loop-row
invariant-loop-row l = l.list.items ≡ scaled l.factor (take l.row-index l.rows)
