use Rattle.std.proofs.Common.{◌+◌, sym, ◌∙◌, subst}
use Rattle.std.proofs.lemmas.Bool.{false≢true}
use Rattle.dual_prices.specs.Rooms.{IsLeastRoom}
use Rattle.dual_prices.proofs.Leasts.{not_below, room_taken, room_kept, room_pass}
use Rattle.dual_prices.proofs.rooms.lesser_room.Goals as goal

pub returns-in_default : goal.returns-in_default
returns-in_default c = room_pass c.args.points.now c.args.costs.now c.args.q c.args.kept.now.rows c.args.row c.args.p c.args.r c.args.least c.in_default.ensures c.requires.least

pub returns-then-not-is_less : goal.returns-then-not-is_less
returns-then-not-is_less c =
    let m = not_below c.in-Some.more c.args.least c.is_less.result c.is_less.ensures c.if-not-is_less.true in
    subst (IsLeastRoom c.args.points.now c.args.costs.now c.args.q c.args.kept.now.rows c.args.row c.args.p (c.args.r + 1)) (sym m.1)
    (room_kept c.args.points.now c.args.costs.now c.args.q c.args.kept.now.rows c.args.row c.args.p c.args.r c.in-Some.more m.0 c.in-Some.ensures.2 m.2
    (subst (IsLeastRoom c.args.points.now c.args.costs.now c.args.q c.args.kept.now.rows c.args.row c.args.p c.args.r) m.1 c.requires.least))

pub returns-then-is_clear_between : goal.returns-then-is_clear_between
returns-then-is_clear_between c =
    room_taken c.args.points.now c.args.costs.now c.args.q c.args.kept.now.rows c.args.row c.args.p c.args.r c.in-Some.more c.args.least c.is_less.result c.requires.r_in
    (c.in-Some.ensures.0, c.is_clear_between.ensures.0 c.if-is_clear_between.true, c.in-Some.ensures.1) c.in-Some.ensures.2
    c.is_less.ensures c.if-not-is_less.false c.requires.least

pub returns-else-is_clear_between : goal.returns-else-is_clear_between
returns-else-is_clear_between c =
    room_pass c.args.points.now c.args.costs.now c.args.q c.args.kept.now.rows c.args.row c.args.p c.args.r c.args.least
    (λ h. false≢true (sym c.if-is_clear_between.false ∙ c.is_clear_between.ensures.1 h.1)) c.requires.least
