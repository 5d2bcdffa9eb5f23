use Rattle.std.specs.Prelude.{take}
use Rattle.std.specs.List.{list_any}
use Rattle.journal_defs.specs.Edits.{touches}
use Rattle.board.specs.Stamping.{AreMarked}
use Rattle.board.proofs.stamping.mark_commit.Given as goal

abbrev pub invariant-loop-k : goal.invariant-loop-k
invariant-loop-k l = AreMarked (λ v. list_any (λ e. touches e v) (take l.k l.edits)) l.number l.fn.stamps l.stamps
