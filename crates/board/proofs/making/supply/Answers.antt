use Rattle.std.proofs.Common.{◌≡◌, length, arith, ap, ◌∙◌}
use Rattle.chronicle.specs.History.{caller_share}
use Rattle.seats.specs.Ground.{caller_of}
use Rattle.board.proofs.Together.{as_many_numbers}
use Rattle.board.proofs.making.supply.Goals as goal

pub own_all-requires-clause-room : goal.own_all-requires-clause-room
own_all-requires-clause-room c =
    let many = as_many_numbers (caller_share caller_of c.in_ok-chronicle.chronicle) c.in_ok-chronicle.shares.items 1 c.args.callers c.in_ok-chronicle.ensures.shares in
    omega (arith, many, c.in_ok-owns.ensures.capacity)

pub own_all-requires-clause-few : goal.own_all-requires-clause-few
own_all-requires-clause-few c =
    let many = as_many_numbers (caller_share caller_of c.in_ok-chronicle.chronicle) c.in_ok-chronicle.shares.items 1 c.args.callers c.in_ok-chronicle.ensures.shares in
    let same : length c.deref-3.result.now ≡ length c.args.journal.now.items = ap length (c.deref-3.ensures.value ∙ c.in_ok-reserve.ensures.items) in
    let fits = c.ranges.callers.fits in
    (omega (arith, many, fits), omega (arith, same, c.requires.room.0, c.requires.room.1))
