use Rattle.std.proofs.Common.{arith, ℕ, ◌++◌, length, sym, ap, ◌∙◌, subst}
use Rattle.index_sets.specs.Prefixes.{longer}
use Rattle.chronicle.specs.History.{ChronicleSeen, ShareSeen, GoesOn}
use Rattle.chronicle.specs.Kept.{Tells, AreCallersFrom}
use Rattle.chronicle.specs.Settled.{share_of}
use Rattle.chronicle.proofs.Moves.{glues, learns}
use Rattle.chronicle.proofs.Told.{is_joined, is_share, goes_on, share-joined}
use Rattle.chronicle.proofs.history.Chronicle.join_parts.Goals as goal

pub join_seat-requires : goal.join_seat-requires
join_seat-requires g c =
    let one = c.self.invariant in (
      ap (λ (n : ChronicleSeen g.row.T.Denot). n.table) (ap (λ (p : ShareSeen g.row.T.Denot). p.of) c.into.view_is ∙ (c.requires.of.0 ∙ sym c.self.view_is)),
      ap (λ (n : ChronicleSeen g.row.T.Denot). n.table) (ap (λ (p : ShareSeen g.row.T.Denot). p.of) c.from.view_is ∙ (c.requires.of.1 ∙ sym c.self.view_is)),
      c.from.invariant.hands,
      (omega arith),
      glues g.T.Entry.caller g.T.Entry.touches c.self.inside.table.shared.key _ _ c.into.inside.seat.me.0 c.from.inside.seat.me.0 c.into.invariant.live,
    )

pub load-requires : goal.load-requires
load-requires g c =
    let one = c.self.invariant in (
      c.join_seat.ensures.0 ∙ ap (λ (n : ChronicleSeen g.row.T.Denot). n.table) (ap (λ (p : ShareSeen g.row.T.Denot). p.of) c.into.view_is ∙ (c.requires.of.0 ∙ sym c.self.view_is)),
      (omega arith),
      learns g.T.Entry.caller g.T.Entry.touches c.self.inside.table.shared.key _ _ c.join_seat.new.seat.me (ap (λ m. m.0.live) c.join_seat.ensures.2 ∙ c.into.invariant.live),
    )

pub invariant_of-into : goal.invariant_of-into
invariant_of-into g c =
    let j = is_joined g.T.Entry.caller g.T.Entry.touches c.into.inside.seat.me c.from.inside.seat.me c.join_seat.new.seat.me c.load.new.seat.me _ c.into.invariant c.from.invariant
    (ap (λ (p : ShareSeen g.row.T.Denot). p.caller) c.from.view_is ∙ c.requires.nobody) c.join_seat.ensures.2 c.load.ensures.2 in
    j.settled

pub returns-clause-both : goal.returns-clause-both
returns-clause-both g c =
    let j = is_joined g.T.Entry.caller g.T.Entry.touches c.into.inside.seat.me c.from.inside.seat.me c.join_seat.new.seat.me c.load.new.seat.me _ c.into.invariant c.from.invariant
    (ap (λ (p : ShareSeen g.row.T.Denot). p.caller) c.from.view_is ∙ c.requires.nobody) c.join_seat.ensures.2 c.load.ensures.2 in
    let id = c.load.ensures.0 ∙ c.join_seat.ensures.0 in
    (λ i. share_of g.T.Entry.caller (id i) c.load.new.seat.me.0) ∙ (share-joined g.T.Entry.caller g.T.Entry.touches c.into.inside.seat.table_id c.into.inside.seat.me c.from.inside.seat.me c.load.new.seat.me c.into.invariant j
    ∙ (λ i. record (c.into.view_is i) { seen = longer (c.into.view_is i).seen (c.from.view_is i).seen; parts = (c.into.view_is i).parts ++ (c.from.view_is i).parts }))

pub returns-clause-into : goal.returns-clause-into
returns-clause-into g c =
    let j = is_joined g.T.Entry.caller g.T.Entry.touches c.into.inside.seat.me c.from.inside.seat.me c.join_seat.new.seat.me c.load.new.seat.me _ c.into.invariant c.from.invariant
    (ap (λ (p : ShareSeen g.row.T.Denot). p.caller) c.from.view_is ∙ c.requires.nobody) c.join_seat.ensures.2 c.load.ensures.2 in
    subst (λ (s : ShareSeen g.row.T.Denot). GoesOn g.T.Entry.caller g.T.Entry.touches s c.load.new.seat.me.0.seen) c.into.view_is
    (goes_on g.T.Entry.caller g.T.Entry.touches c.into.inside.seat.table_id c.into.inside.seat.me c.load.new.seat.me.0.seen c.into.invariant j.into j.later)

pub returns-clause-from : goal.returns-clause-from
returns-clause-from g c =
    let j = is_joined g.T.Entry.caller g.T.Entry.touches c.into.inside.seat.me c.from.inside.seat.me c.join_seat.new.seat.me c.load.new.seat.me _ c.into.invariant c.from.invariant
    (ap (λ (p : ShareSeen g.row.T.Denot). p.caller) c.from.view_is ∙ c.requires.nobody) c.join_seat.ensures.2 c.load.ensures.2 in
    let same = ap (λ (p : ShareSeen g.row.T.Denot). p.of) c.into.view_is ∙ (c.requires.of.0 ∙ (sym c.requires.of.1 ∙ sym (ap (λ (p : ShareSeen g.row.T.Denot). p.of) c.from.view_is))) in
    let tells = subst (λ (z : ℕ). Tells g.T.Entry.caller g.T.Entry.touches c.from.inside.seat.me.0.seen c.from.inside.seat.me.0.parts c.from.inside.seat.me.0.callers z c.load.new.seat.me.0.seen) (ap (λ (n : ChronicleSeen g.row.T.Denot). n.last) same) j.from in
    let later = subst (λ (n : ChronicleSeen g.row.T.Denot). AreCallersFrom g.T.Entry.caller n.callers (length n.first) c.load.new.seat.me.0.seen) same j.later in
    subst (λ (s : ShareSeen g.row.T.Denot). GoesOn g.T.Entry.caller g.T.Entry.touches s c.load.new.seat.me.0.seen) c.from.view_is
    (goes_on g.T.Entry.caller g.T.Entry.touches c.from.inside.seat.table_id c.from.inside.seat.me c.load.new.seat.me.0.seen c.from.invariant tells later)

pub returns-clause-valid : goal.returns-clause-valid
returns-clause-valid g c = is_share g.T.Entry.caller g.T.Entry.touches c.load.new.seat.table_id c.load.new.seat.me (invariant_of-into g c)
