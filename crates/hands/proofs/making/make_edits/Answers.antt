use Rattle.std.proofs.Common.{arith, ◌+◌, ◌-◌}
use Rattle.hands.proofs.Steps.{room_for}
use Rattle.hands.proofs.Made.{covered_made, more_made, illegal_at, all_legal, all_made, flip_among, state_made}
use Rattle.hands.proofs.making.make_edits.Goals as goal

pub is_legal-requires-clause-right : goal.is_legal-requires-clause-right
is_legal-requires-clause-right c =
    state_made c.args.points.now c.requires.right.0 c.args.edits.now c.loop-k.k _ _ c.len-count.ensures.accepted c.requires.right.1 c.requires.right.2 c.loop-k.invariant.0

pub is_legal-requires-clause-covered : goal.is_legal-requires-clause-covered
is_legal-requires-clause-covered c =
    covered_made c.args.points.now c.requires.right.0 c.args.edits.now c.loop-k.k _ _ c.index-edits-k.result (c.loop-k.invariant.0 c.requires.right.0 c.requires.right.1 c.requires.right.2) c.loop-k-test.true c.index-edits-k.is c.requires.covered

pub change-requires-clause-right : goal.change-requires-clause-right
change-requires-clause-right c =
    let t = state_made c.args.points.now c.requires.right.0 c.args.edits.now c.loop-k.k _ _ c.len-count.ensures.accepted c.requires.right.1 c.requires.right.2 c.loop-k.invariant.0 in
    (t.0, t.1, c.in-Ok.ensures.legal t.0 t.1 t.2, t.2)

pub change-requires-clause-room : goal.change-requires-clause-room
change-requires-clause-room c =
    λ flip. room_for 1 (16 - c.loop-k.k) c.loop-k.hands (omega arith) (c.loop-k.invariant.1 (flip_among c.args.edits.now c.loop-k.k c.index-edits-k.result c.loop-k-test.true c.index-edits-k.is flip))

pub returns-in-Err-clause-illegal : goal.returns-in-Err-clause-illegal
returns-in-Err-clause-illegal c =
    illegal_at c.args.points.now c.args.edits.now c.loop-k.k _ _ c.index-edits-k.result c.in-Err.why c.len-count.ensures.accepted c.loop-k.invariant.0 c.loop-k-test.true c.index-edits-k.is c.in-Err.ensures.illegal

pub returns-in-Err-clause-before : goal.returns-in-Err-clause-before
returns-in-Err-clause-before c = (c.loop-k.invariant.0 c.requires.right.0 c.requires.right.1 c.requires.right.2).made

pub returns-in-Err-clause-room : goal.returns-in-Err-clause-room
returns-in-Err-clause-room c = λ flip. room_for 8 (16 - c.loop-k.k) c.loop-k.hands (omega arith) (c.loop-k.invariant.1 flip)

pub loop-k-preserved : goal.loop-k-preserved
loop-k-preserved c = (
  more_made c.args.points.now c.args.edits.now c.loop-k.k _ _ _ c.index-edits-k.result c.len-count.ensures.accepted c.loop-k.invariant.0 c.loop-k-test.true c.index-edits-k.is c.in-Ok.ensures.legal c.change.ensures.hands,
  λ flip. c.change.ensures.room (16 - (c.loop-k.k + 1)) (room_for (16 - (c.loop-k.k + 1) + 1) (16 - c.loop-k.k) c.loop-k.hands (omega arith) (c.loop-k.invariant.1 flip)),
)

pub returns-clause-made : goal.returns-clause-made
returns-clause-made c =
    all_made c.args.points.now c.requires.right.0 c.args.edits.now c.loop-k.k _ _ (c.loop-k.invariant.0 c.requires.right.0 c.requires.right.1 c.requires.right.2) (omega arith)

pub returns-clause-legal : goal.returns-clause-legal
returns-clause-legal c = all_legal c.args.points.now c.args.edits.now c.loop-k.k _ _ c.loop-k.invariant.0 (omega arith)

pub returns-clause-room : goal.returns-clause-room
returns-clause-room c = λ flip. room_for 8 (16 - c.loop-k.k) c.loop-k.hands (omega arith) (c.loop-k.invariant.1 flip)
