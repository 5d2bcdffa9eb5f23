use Rattle.rewind.proofs.Marked.{marked_more}
use Rattle.rewind.proofs.keeping.mark_all.Goals as goal

pub loop-edit-preserved : goal.loop-edit-preserved
loop-edit-preserved c =
    marked_more _ _ _ c.args.edits.now c.loop-edit.edit-index c.edit-item.result c.loop-edit-test.true c.edit-item.is c.loop-edit.invariant c.in_ok-mark.ensures
