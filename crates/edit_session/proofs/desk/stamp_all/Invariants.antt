use Rattle.std.proofs.Common.{take}
use Rattle.std.specs.List.{list_any}
use Rattle.journal_defs.specs.Edits.{touches}
use Rattle.edit_session.specs.Desks.{AreStamped}
use Rattle.edit_session.proofs.desk.stamp_all.Given as goal

abbrev pub invariant-loop-edit : goal.invariant-loop-edit
invariant-loop-edit l = AreStamped (λ v. list_any (λ e. touches e v) (take l.edit-index l.edits)) l.number l.initial.stamps l.stamps
