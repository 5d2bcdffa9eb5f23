use Rattle.given_sums.proofs.Added.{added_both, room_after, room_more}
use Rattle.given_sums.proofs.adding.add_at_point.Goals as goal

pub add_after-requires-clause-room : goal.add_after-requires-clause-room
add_after-requires-clause-room c = room_more c.args.width c.args.sums.now c.requires.room

pub add_before-requires-clause-room : goal.add_before-requires-clause-room
add_before-requires-clause-room c =
    room_after c.args.points.now c.args.row c.args.p c.args.first c.args.width c.args.sums.now c.add_after.new.sums c.requires.light c.requires.room c.add_after.ensures

pub returns : goal.returns
returns c =
    added_both c.args.points.now c.args.row c.args.p c.args.first c.args.width c.args.sums.now c.add_after.new.sums c.add_before.new.sums c.requires.stand c.add_after.ensures c.add_before.ensures
