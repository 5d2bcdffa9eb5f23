use Rattle.std.proofs.Common.{arith, List, length, ap, ◌∙◌}
use Rattle.chronicle.proofs.Moves.{begins_as}
use Rattle.chronicle.proofs.calls.open.Goals as goal

pub load-requires : goal.load-requires
load-requires g c =
    let one = c.requires.table in
    (one.1, (omega arith), begins_as g.T.Entry.caller g.T.Entry.touches c.args.table.shared.key _ _ c.args.seat.me g.B.Known.entries c.requires.view.0 (c.requires.view.1 ∙ ap (λ (l : List g.row.T.Denot). length l) c.requires.told))
