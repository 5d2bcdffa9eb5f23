use Rattle.std.proofs.Common.{◌≡◌, take}
use Rattle.price_defs.specs.Loads.{takes}
use Rattle.price_defs.proofs.plain.takes_of.Given as goal

abbrev pub invariant-loop-row : goal.invariant-loop-row
invariant-loop-row l = l.sum ≡ takes (take l.row-index l.rows) l.i l.j
