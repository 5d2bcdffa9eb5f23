use Rattle.std.proofs.Common.{take}
use Rattle.journal_defs.specs.Journal.{after_all}
use Rattle.rewind.specs.Marks.{HaveMarked}
use Rattle.rewind.proofs.keeping.mark_all.Given as goal

abbrev pub invariant-loop-edit : goal.invariant-loop-edit
invariant-loop-edit l = HaveMarked l.initial.kept.keys l.kept.keys (after_all (take l.edit-index l.edits))
