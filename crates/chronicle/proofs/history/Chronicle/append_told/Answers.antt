use Rattle.std.proofs.Common.{arith, ◌<◌, ◌^◌, ◌-◌, List, [], ◌∷◌, length, length-append, sym, ap, ◌∙◌, subst}
use Rattle.index_sets.specs.Indices.{contains}
use Rattle.chronicle.specs.History.{ChronicleSeen, ShareSeen}
use Rattle.chronicle.proofs.Moves.{adds}
use Rattle.chronicle.proofs.Told.{only-contains, settled_added, is_share}
use Rattle.chronicle.proofs.history.Chronicle.append_told.Goals as goal

pub fetch_add-requires : goal.fetch_add-requires
fetch_add-requires g c =
    let one = c.self.invariant in
    let s = c.share.inside.seat in
    let is = c.share.view_is in
    let same = ap (λ (p : ShareSeen g.row.T.Denot). p.of) is ∙ (c.requires.of ∙ sym c.self.view_is) in
    let caller = ap (λ (p : ShareSeen g.row.T.Denot). p.caller) is in (
      ap (λ (n : ChronicleSeen g.row.T.Denot). n.table) same,
      (omega arith),
      adds g.T.Entry.caller g.T.Entry.touches c.self.inside.table.shared.key _ _ s.me _ c.args.entry.now c.requires.told c.share.invariant.live
          (ap (λ (p : ShareSeen g.row.T.Denot). contains p.parts p.of.last) is ∙ (ap (λ (n : ChronicleSeen g.row.T.Denot). contains c.args.share.now.parts n.last) c.requires.of ∙ c.requires.last))
          (λ p t. ap (λ (z : ShareSeen g.row.T.Denot). contains z.parts p) is ∙ c.requires.parts p t)
          (only-contains s.me.0.callers (g.T.Entry.caller c.args.entry.now) c.share.invariant.callers (λ z. c.requires.caller.1 (sym caller ∙ z)) (c.requires.caller.0 ∙ sym caller))
          (subst (λ (l : List g.row.T.Denot). length l < 2 ^ 64 - 1) (sym (ap (λ (p : ShareSeen g.row.T.Denot). p.seen) is)) c.requires.room),
    )

pub invariant_of-share : goal.invariant_of-share
invariant_of-share g c =
    let is = c.share.view_is in
    let caller = ap (λ (p : ShareSeen g.row.T.Denot). p.caller) is in
    settled_added g.T.Entry.caller g.T.Entry.touches c.share.inside.seat.me _ _ _ c.args.entry.now c.share.invariant c.fetch_add.ensures.2 c.requires.told
    (only-contains c.share.inside.seat.me.0.callers (g.T.Entry.caller c.args.entry.now) c.share.invariant.callers (λ z. c.requires.caller.1 (sym caller ∙ z)) (c.requires.caller.0 ∙ sym caller))

pub returns-clause-number : goal.returns-clause-number
returns-clause-number g c =
    let w = c.fetch_add.ensures.2.after c.args.entry.now c.requires.told in
    let e = ap (λ m. length m.0.seen) w in
    let found = c.fetch_add.ensures.2.found in
    let l = length-append c.share.inside.seat.me.0.seen (c.args.entry.now ∷ []) in
    omega arith

pub returns-clause-valid : goal.returns-clause-valid
returns-clause-valid g c = is_share g.T.Entry.caller g.T.Entry.touches c.fetch_add.new.seat.table_id c.fetch_add.new.seat.me (invariant_of-share g c)
