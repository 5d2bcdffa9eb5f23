use Rattle.std.proofs.Common.{◌≡◌, ◌+◌, ◌∙◌, List, [], ◌∷◌, ◌++◌, true, length, ap, subst}
use Rattle.std.specs.List.{list_any}
use Rattle.vertex_claims.specs.Holding.{ClaimsSeen}
use Rattle.journal_defs.specs.declared.edit.Edit.{Edit}
use Rattle.journal_defs.specs.declared.commit.Commit.{Commit}
use Rattle.journal_defs.specs.Edits.{touches}
use Rattle.journal_defs.specs.Journal.{IsLegalJournal, made}
use Rattle.index_sets.specs.Indices.{contains}
use Rattle.hands.specs.Hands.{hands_of, vertices}
use Rattle.seats.specs.declared.cells.Root.{Root}
use Rattle.seats.specs.Seats.{SeatSeen, ground_of}
use Rattle.seats.specs.Claimed.{journal_place}
use Rattle.board.proofs.Ends.{AtLeave, journal_held, vertex_held, at_leave}
use Rattle.board.proofs.Early.{shelf_of}
use Rattle.board.proofs.closing.enter.Goals as goal

pub enter-commit-requires-clause-journal : goal.enter-commit-requires-clause-journal
enter-commit-requires-clause-journal c =
    ap (λ (x : ClaimsSeen Root). contains c.args.seat.now.held (length x.root.points)) c.requires.of ∙ journal_held (ground_of c.args.shelf.now) c.args.edits.now c.args.seat.now _ _ c.requires.ready

pub enter-commit-requires-clause-vertices : goal.enter-commit-requires-clause-vertices
enter-commit-requires-clause-vertices c v t =
    vertex_held (ground_of c.args.shelf.now) c.args.edits.now c.args.seat.now _ _ c.requires.ready v (subst (λ (es : List Edit). list_any (λ (e : Edit). touches e v) es ≡ true) c.make.ensures t)

pub give_journal-requires-clause-held : goal.give_journal-requires-clause-held
give_journal-requires-clause-held c =
    ap (λ (z : SeatSeen). contains z.held (journal_place z)) c.enter-commit.ensures.entered
    ∙ (ap (λ (x : ClaimsSeen Root). contains c.args.seat.now.held (length x.root.points)) c.requires.of ∙ journal_held (ground_of c.args.shelf.now) c.args.edits.now c.args.seat.now _ _ c.requires.ready)

left : (c : goal.After-give_journal) → AtLeave c.args.shelf.now c.args.seat.now c.give_journal.new.seat c.enter-commit.result.0 (hands_of c.args.hands.now.items) (hands_of c.stamp_all.new.hands.items)
left c =
    at_leave c.args.shelf.now c.args.edits.now c.args.seat.now c.enter-commit.new.seat c.give_journal.new.seat (hands_of c.args.hands.now.items) (hands_of c.stamp_all.new.hands.items) c.args.journal.items
    c.enter-commit.result.0 c.enter-commit.result.1 (journal_place c.enter-commit.new.seat) (shelf_of c.args.shelf.now c.args.seat.now c.requires.of c.requires.seat)
    (subst (λ (x : ClaimsSeen Root). IsLegalJournal x.root.points x.root.start.items c.args.seat.now.seen) c.requires.of c.requires.seat.legal) c.requires.ready
    (ap (λ (x : Commit). x.edits) c.enter-commit.ensures.commit ∙ c.make.ensures) c.enter-commit.ensures.entered c.enter-commit.ensures.number c.stamp_all.ensures.hands
    (ap (λ (z : SeatSeen). length z.of.root.points) c.enter-commit.ensures.entered ∙ ap (λ (x : ClaimsSeen Root). length x.root.points) c.requires.of) c.give_journal.ensures.latest

pub returns-clause-seat : goal.returns-clause-seat
returns-clause-seat c =
    let s = c.args.seat.now in
    (left c).seat
    ∙ ap (λ (x : Commit). record s { seen = s.seen ++ x ∷ []; mine = s.mine ++ x ∷ []; held = vertices (hands_of c.stamp_all.new.hands.items) })
    (c.enter-commit.ensures.commit ∙ ap (λ (es : List Edit). (let x : Commit = record { caller = s.caller; seq = made s.caller s.seen + 1; edits = es } in x)) c.make.ensures)

pub returns-clause-leave : goal.returns-clause-leave
returns-clause-leave c = (left c).leave
