use Rattle.std.proofs.Common.{arith, sym, ap, ◌∙◌}
use Rattle.chronicle.specs.History.{ChronicleSeen, ShareSeen}
use Rattle.chronicle.proofs.Moves.{learns}
use Rattle.chronicle.proofs.Told.{settled_learned, is_share}
use Rattle.chronicle.proofs.history.Chronicle.look_count.Goals as goal

pub load-requires : goal.load-requires
load-requires g c =
    let one = c.self.invariant in (
      ap (λ (n : ChronicleSeen g.row.T.Denot). n.table) (ap (λ (p : ShareSeen g.row.T.Denot). p.of) c.share.view_is ∙ (c.requires.of ∙ sym c.self.view_is)),
      (omega arith),
      learns g.T.Entry.caller g.T.Entry.touches c.self.inside.table.shared.key _ _ c.share.inside.seat.me c.share.invariant.live,
    )

pub returns-clause-valid : goal.returns-clause-valid
returns-clause-valid g c =
    is_share g.T.Entry.caller g.T.Entry.touches c.load.new.seat.table_id c.load.new.seat.me (settled_learned g.T.Entry.caller g.T.Entry.touches c.share.inside.seat.me c.load.new.seat.me _ c.share.invariant c.load.ensures.2)
