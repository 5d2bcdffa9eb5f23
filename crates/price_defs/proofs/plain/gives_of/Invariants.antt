use Rattle.std.proofs.Common.{◌≡◌, take}
use Rattle.price_defs.specs.Loads.{gives}
use Rattle.price_defs.proofs.plain.gives_of.Given as goal

abbrev pub invariant-loop-row : goal.invariant-loop-row
invariant-loop-row l = l.sum ≡ gives l.points (take l.row-index l.rows) l.i l.j
