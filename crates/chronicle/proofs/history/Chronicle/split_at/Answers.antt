use Rattle.std.proofs.Common.{arith, ℕ, [], ◌∷◌, ◌++◌, sym, ap, ◌∙◌, subst}
use Rattle.index_sets.specs.Indices.{contains, all_but, HasNoRepeat}
use Rattle.index_sets.proofs.Laws.{all_but-snoc}
use Rattle.chronicle.specs.History.{ChronicleSeen, ShareSeen}
use Rattle.chronicle.proofs.Moves.{cuts_part}
use Rattle.chronicle.proofs.Told.{settled_left, settled_right, is_share}
use Rattle.chronicle.proofs.history.Chronicle.split_at.Goals as goal

pub split_seat-seat-requires : goal.split_seat-seat-requires
split_seat-seat-requires g c =
    let one = c.self.invariant in
    let is = c.from.view_is in
    let v = c.from.inside.seat.me.0 in (
      ap (λ (n : ChronicleSeen g.row.T.Denot). n.table) (ap (λ (p : ShareSeen g.row.T.Denot). p.of) is ∙ (c.requires.of ∙ sym c.self.view_is)),
      (omega arith),
      cuts_part g.T.Entry.caller g.T.Entry.touches c.self.inside.table.shared.key _ g.B.Which.part v c.from.invariant.live
          (ap (λ (p : ShareSeen g.row.T.Denot). contains p.parts g.B.Which.part) is ∙ (ap (contains c.args.from.now.parts) (sym c.requires.told) ∙ c.requires.owns)),
    )

pub invariant_of-from : goal.invariant_of-from
invariant_of-from g c = settled_left g.T.Entry.caller g.T.Entry.touches c.from.inside.seat.me _ g.B.Which.part c.from.invariant c.split_seat-seat.ensures.2

pub returns-clause-latest : goal.returns-clause-latest
returns-clause-latest g c others is =
    let p : ℕ = g.B.Which.part in
    let parts = ap (λ (z : ShareSeen g.row.T.Denot). z.parts) c.from.view_is in
    let was = parts ∙ (is ∙ ap (λ (z : ℕ). others ++ z ∷ []) c.requires.told) in
    ap (λ m. m.0.parts) c.split_seat-seat.ensures.2 ∙ (ap (λ l. all_but l p) was ∙ all_but-snoc others p (subst HasNoRepeat was c.from.invariant.once))

pub returns-clause-valid : goal.returns-clause-valid
returns-clause-valid g c = (
  is_share g.T.Entry.caller g.T.Entry.touches c.split_seat-seat.new.seat.table_id c.split_seat-seat.new.seat.me (invariant_of-from g c),
  is_share g.T.Entry.caller g.T.Entry.touches c.split_seat-seat.result.table_id c.split_seat-seat.result.me (settled_right g.T.Entry.caller g.T.Entry.touches c.from.inside.seat.me c.split_seat-seat.result.me g.B.Which.part c.from.invariant c.split_seat-seat.ensures.4),
)
