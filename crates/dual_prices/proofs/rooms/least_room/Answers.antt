use Rattle.std.proofs.Common.{◌+◌}
use Rattle.dual_prices.proofs.Leasts.{no_room}
use Rattle.dual_prices.proofs.rooms.least_room.Goals as goal

pub returns-then-is_used_up : goal.returns-then-is_used_up
returns-then-is_used_up c =
    no_room c.args.points.now c.args.costs.now c.args.q c.args.kept.now.rows c.args.row c.args.p 0 c.first_room-least.result c.is_used_up.result c.requires.valid c.requires.right c.requires.p_in
    c.is_used_up.ensures c.if-is_used_up.true c.first_room-least.ensures

pub returns-then-is_used_up-2 : goal.returns-then-is_used_up-2
returns-then-is_used_up-2 c =
    no_room c.args.points.now c.args.costs.now c.args.q c.args.kept.now.rows c.args.row c.args.p (c.loop-r.r + 1) c.lesser_room-least.result c.is_used_up-in-loop-r.result c.requires.valid c.requires.right c.requires.p_in
    c.is_used_up-in-loop-r.ensures c.if-is_used_up-2.true c.lesser_room-least.ensures
