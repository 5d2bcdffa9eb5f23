use Rattle.std.specs.Prelude.{take}
use Rattle.board.specs.Stamping.{AreStampsOf}
use Rattle.board.proofs.stamping.stamps_of.Given as goal

abbrev pub invariant-loop-k : goal.invariant-loop-k
invariant-loop-k l = AreStampsOf (take l.k l.journal) l.count l.stamps.items
