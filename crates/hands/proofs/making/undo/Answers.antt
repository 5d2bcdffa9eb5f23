use Rattle.std.proofs.Common.{arith, ◌+◌, ◌-◌, sym, ◌∙◌, ap}
use Rattle.hands.specs.Hands.{is_flip}
use Rattle.hands.proofs.Steps.{room_for}
use Rattle.hands.proofs.Made.{undo_may, more_undone, flip_among, flip_back}
use Rattle.hands.proofs.making.undo.Goals as goal

pub change-requires-clause-right : goal.change-requires-clause-right
change-requires-clause-right c =
    undo_may c.args.points.now c.args.edits.now c.args.count c.loop-k.k _ _ c.index-edits-k.result c.inverse-back.result c.requires.made.0 c.len-count.ensures.accepted c.loop-k-test.true c.loop-k.invariant.0 c.requires.count c.index-edits-k.is
    c.loop-k.invariant.1 c.inverse-back.ensures c.requires.made.1 c.requires.made.2 c.requires.made.3

pub change-requires-clause-room : goal.change-requires-clause-room
change-requires-clause-room c =
    λ flip. room_for 1 c.loop-k.k c.loop-k.hands (omega arith)
    (c.loop-k.invariant.2 (flip_among c.args.edits.now (c.loop-k.k - 1) c.index-edits-k.result (omega (arith, c.loop-k.invariant.0)) c.index-edits-k.is
    (sym (flip_back c.index-edits-k.result) ∙ (ap is_flip (sym c.inverse-back.ensures) ∙ flip))))

pub loop-k-preserved : goal.loop-k-preserved
loop-k-preserved c = (
  (let z = c.loop-k.invariant.0 in omega (arith, z)),
  more_undone c.args.points.now c.args.edits.now c.args.count c.loop-k.k _ _ _ c.index-edits-k.result c.inverse-back.result c.len-count.ensures.accepted c.loop-k-test.true c.loop-k.invariant.0 c.requires.count c.index-edits-k.is
      c.loop-k.invariant.1 c.inverse-back.ensures c.change.ensures.hands,
  λ flip. c.change.ensures.room (c.loop-k.k - 1) (room_for (c.loop-k.k - 1 + 1) c.loop-k.k c.loop-k.hands (omega arith) (c.loop-k.invariant.2 flip)),
)
