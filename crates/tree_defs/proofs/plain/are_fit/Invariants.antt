use Rattle.std.proofs.Common.{◌≡◌, ◌<◌, ℕ, slice_index_or}
use Rattle.price_defs.specs.declared.row.Row.{Row}
use Rattle.tree_defs.specs.Plain.{IsFit}
use Rattle.tree_defs.proofs.plain.are_fit.Given as goal

abbrev pub invariant-loop-row : goal.invariant-loop-row
invariant-loop-row l = (k : ℕ) (row : Row) → k < l.row-index → slice_index_or l.rows k row ≡ row → IsFit l.points row
