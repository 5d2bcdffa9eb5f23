use Rattle.edit_session.proofs.Stamps.{stamped_more, stamped_none}
use Rattle.edit_session.proofs.desk.stamp_all.Goals as goal

pub loop-edit-init : goal.loop-edit-init
loop-edit-init c = stamped_none c.args.number c.args.stamps.now

pub loop-edit-preserved : goal.loop-edit-preserved
loop-edit-preserved c =
    stamped_more c.args.edits.now c.loop-edit.edit-index c.edit-item.result c.args.number c.args.stamps.now c.loop-edit.stamps c.stamp_touched.new.stamps
    c.loop-edit-test.true c.edit-item.is c.loop-edit.invariant c.stamp_touched.ensures
