use Rattle.std.proofs.Common.{take}
use Rattle.subdivision.specs.Layout.{AreStarsOf}
use Rattle.subdivision.proofs.joining.stars_of.Given as goal

abbrev pub invariant-loop-pair : goal.invariant-loop-pair
invariant-loop-pair l = AreStarsOf l.points (take l.pair-index l.pairs) (take l.pair-index l.pairs) l.stars.items
