use Rattle.replay.proofs.Answered.{on_err}
use Rattle.replay.proofs.Roomy.{more_more, rooms_more, item_within, some_flip}
use Rattle.replay.proofs.reserving.reserve_all.Goals as goal

pub reserve_for-requires : goal.reserve_for-requires
reserve_for-requires c = item_within _ _ c.args.edits.now c.loop-edit.edit-index c.edit-item.result c.requires c.loop-edit.invariant.0.len c.loop-edit-test.true c.edit-item.is

pub returns-in_err-reserve_for-clause-same : goal.returns-in_err-reserve_for-clause-same
returns-in_err-reserve_for-clause-same c = more_more _ _ _ _ c.loop-edit.invariant.0 c.in_err-reserve_for.ensures.same

pub returns-in_err-reserve_for-clause-flip : goal.returns-in_err-reserve_for-clause-flip
returns-in_err-reserve_for-clause-flip c = on_err c.from_residual.result (some_flip c.args.edits.now c.loop-edit.edit-index c.edit-item.result c.in_err-reserve_for.ensures.flip c.loop-edit-test.true c.edit-item.is)

pub loop-edit-preserved : goal.loop-edit-preserved
loop-edit-preserved c = (
  more_more _ _ _ _ c.loop-edit.invariant.0 c.in_ok-reserve_for.ensures.same,
  rooms_more _ _ _ c.args.edits.now c.loop-edit.edit-index c.edit-item.result c.in_ok-reserve_for.ensures.same c.loop-edit.invariant.1 c.in_ok-reserve_for.ensures.room c.loop-edit-test.true c.edit-item.is,
)
