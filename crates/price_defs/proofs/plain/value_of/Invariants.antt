use Rattle.std.proofs.Common.{◌≡◌, take}
use Rattle.std.specs.List.{sum_by}
use Rattle.price_defs.specs.Loads.{added, lost}
use Rattle.price_defs.proofs.plain.value_of.Given as goal

abbrev pub invariant-loop-row : goal.invariant-loop-row
invariant-loop-row l = (l.plus ≡ sum_by added (take l.row-index l.rows)) × (l.minus ≡ sum_by lost (take l.row-index l.rows))
