use Rattle.std.proofs.Common.{arith, ◌≡◌, ◌∙◌, List, length, ap, subst}
use Rattle.vertex_claims.specs.Holding.{ClaimsSeen}
use Rattle.journal_defs.specs.declared.commit.Commit.{Commit}
use Rattle.journal_defs.specs.Journal.{replay, IsLegalJournal}
use Rattle.hands.specs.Hands.{hands_of, vertices}
use Rattle.seats.specs.declared.cells.Root.{Root}
use Rattle.seats.specs.Seats.{SeatSeen}
use Rattle.seats.specs.Claimed.{journal_place}
use Rattle.board.proofs.Held.{journal_free, journal_in}
use Rattle.board.proofs.Ends.{at_end, undo_early, leave_early, busy_journal, undo_late, returned, leave_late, full, journal_is, ready, whole_entry}
use Rattle.board.proofs.Early.{shelf_of}
use Rattle.board.proofs.closing.close.Goals as goal

pub claim_journal-requires-clause-free : goal.claim_journal-requires-clause-free
claim_journal-requires-clause-free c =
    journal_free c.args.shelf.now c.requires.open.1 (length c.requires.open.1) c.requires.open.0 c.args.seat.now c.requires.open.3.first c.requires.of c.requires.open.3.holding

-- the journal was missed
pub undo_all-requires-clause-made : goal.undo_all-requires-clause-made
undo_all-requires-clause-made c =
    let u = undo_early c.args.shelf.now c.args.edits.now c.requires.open.1 c.requires.open.0 c.args.seat.now (hands_of c.args.hands.now.items) (shelf_of c.args.shelf.now c.args.seat.now c.requires.of c.requires.seat) c.requires.open.3 in
    (replay c.args.shelf.now.root.start.items c.args.seat.now.seen, u.sound, u.legal, u.made)

pub give_all-requires : goal.give_all-requires
give_all-requires c =
    let x = leave_early c.args.shelf.now c.args.edits.now c.requires.open.1 c.requires.open.0 c.args.seat.now c.claim_journal.new.seat (hands_of c.args.hands.now.items) (hands_of c.undo_all.new.hands.items) c.in-Err.holder
    (shelf_of c.args.shelf.now c.args.seat.now c.requires.of c.requires.seat) c.requires.of c.requires.open.3 c.in-Err.ensures.missed c.undo_all.ensures.back in
    record {
      of = c.claim_journal.ensures.same.0 ∙ c.requires.of;
      seat = c.claim_journal.ensures.valid;
      held = x.held;
      right = x.right;
      stamped = x.stamped;
    }

pub returns-in-Err-clause-late : goal.returns-in-Err-clause-late
returns-in-Err-clause-late c = λ before claims plan o.
    busy_journal c.args.shelf.now c.args.edits.now claims before c.args.seat.now c.claim_journal.new.seat c.give_all.new.seat (hands_of c.args.hands.now.items) c.len-place.result c.in-Err.holder
    c.requires.of o c.in-Err.ensures.missed c.give_all.ensures.seat (c.len-place.ensures.count ∙ ap (λ l. length l) c.points.ensures.points)

-- the journal was won
pub undo_all-requires-then-len-room-clause-made : goal.undo_all-requires-then-len-room-clause-made
undo_all-requires-then-len-room-clause-made c =
    let e = at_end c.args.shelf.now c.args.edits.now c.requires.open.1 c.requires.open.0 c.args.seat.now c.claim_journal.new.seat (hands_of c.args.hands.now.items) c.in-Ok.journal.items
    (shelf_of c.args.shelf.now c.args.seat.now c.requires.of c.requires.seat) c.requires.of c.requires.open.2 c.requires.open.3 c.in-Ok.ensures.won in
    let u = undo_late c.args.shelf.now c.args.edits.now c.requires.open.1 c.requires.open.0 c.claim_journal.new.seat (hands_of c.args.hands.now.items) (shelf_of c.args.shelf.now c.args.seat.now c.requires.of c.requires.seat) e in
    (replay c.args.shelf.now.root.start.items c.claim_journal.new.seat.seen, u.sound, u.legal, u.made)

pub give_journal-requires-clause-held : goal.give_journal-requires-clause-held
give_journal-requires-clause-held c =
    let e = at_end c.args.shelf.now c.args.edits.now c.requires.open.1 c.requires.open.0 c.args.seat.now c.claim_journal.new.seat (hands_of c.args.hands.now.items) c.in-Ok.journal.items
    (shelf_of c.args.shelf.now c.args.seat.now c.requires.of c.requires.seat) c.requires.of c.requires.open.2 c.requires.open.3 c.in-Ok.ensures.won in
    journal_in c.args.shelf.now c.claim_journal.new.seat (vertices e.first) (c.claim_journal.ensures.same.0 ∙ c.requires.of) e.held

pub give_all-requires-then-len-room : goal.give_all-requires-then-len-room
give_all-requires-then-len-room c =
    let e = at_end c.args.shelf.now c.args.edits.now c.requires.open.1 c.requires.open.0 c.args.seat.now c.claim_journal.new.seat (hands_of c.args.hands.now.items) c.in-Ok.journal.items
    (shelf_of c.args.shelf.now c.args.seat.now c.requires.of c.requires.seat) c.requires.of c.requires.open.2 c.requires.open.3 c.in-Ok.ensures.won in
    let r = returned c.args.shelf.now c.args.edits.now c.requires.open.1 c.requires.open.0 c.claim_journal.new.seat c.give_journal.new.seat (hands_of c.args.hands.now.items) (journal_place c.claim_journal.new.seat) e
    (ap (λ (x : ClaimsSeen Root). length x.root.points) (c.claim_journal.ensures.same.0 ∙ c.requires.of)) c.give_journal.ensures.latest e in
    let x = leave_late c.args.shelf.now c.args.edits.now c.requires.open.1 c.requires.open.0 c.claim_journal.new.seat c.give_journal.new.seat (hands_of c.args.hands.now.items) (hands_of c.undo_all-then-len-room.new.hands.items)
    (shelf_of c.args.shelf.now c.args.seat.now c.requires.of c.requires.seat) e c.undo_all-then-len-room.ensures.back r in
    record {
      of = ap (λ (s : SeatSeen). s.of) r ∙ (c.claim_journal.ensures.same.0 ∙ c.requires.of);
      seat = c.give_journal.ensures.valid;
      held = x.held;
      right = x.right;
      stamped = x.stamped;
    }

pub returns-then-len-room-clause-late : goal.returns-then-len-room-clause-late
returns-then-len-room-clause-late c = λ before claims plan o.
    let e = at_end c.args.shelf.now c.args.edits.now claims before c.args.seat.now c.claim_journal.new.seat (hands_of c.args.hands.now.items) c.in-Ok.journal.items
    (shelf_of c.args.shelf.now c.args.seat.now c.requires.of c.requires.seat) c.requires.of plan o c.in-Ok.ensures.won in
    let r = returned c.args.shelf.now c.args.edits.now claims before c.claim_journal.new.seat c.give_journal.new.seat (hands_of c.args.hands.now.items) (journal_place c.claim_journal.new.seat) e
    (ap (λ (x : ClaimsSeen Root). length x.root.points) (c.claim_journal.ensures.same.0 ∙ c.requires.of)) c.give_journal.ensures.latest e in
    let w = journal_is c.args.shelf.now c.args.seat.now c.claim_journal.new.seat c.in-Ok.journal.items c.requires.of c.in-Ok.ensures.won in
    let size = ap (λ (l : List Commit). length l) w.0 in
    let most = w.1 in
    full c.args.shelf.now c.args.edits.now claims before c.claim_journal.new.seat c.give_journal.new.seat c.give_all-then-len-room.new.seat (hands_of c.args.hands.now.items) e r
    c.give_all-then-len-room.ensures.seat (omega (arith, size, most, c.len.ensures, c.room.ensures, c.if-len-room.true))

pub enter-number-requires-clause-ready : goal.enter-number-requires-clause-ready
enter-number-requires-clause-ready c =
    let e = at_end c.args.shelf.now c.args.edits.now c.requires.open.1 c.requires.open.0 c.args.seat.now c.claim_journal.new.seat (hands_of c.args.hands.now.items) c.in-Ok.journal.items
    (shelf_of c.args.shelf.now c.args.seat.now c.requires.of c.requires.seat) c.requires.of c.requires.open.2 c.requires.open.3 c.in-Ok.ensures.won in
    let w = journal_is c.args.shelf.now c.args.seat.now c.claim_journal.new.seat c.in-Ok.journal.items c.requires.of c.in-Ok.ensures.won in
    let size = ap (λ (l : List Commit). length l) w.0 in
    ready c.args.shelf.now c.args.edits.now c.requires.open.1 c.requires.open.0 c.claim_journal.new.seat (hands_of c.args.hands.now.items) c.in-Ok.journal.items c.requires.open.2 e w.0
    (omega (arith, size, c.len.ensures, c.room.ensures, c.if-len-room.false))

pub returns-else-len-room-clause-entered : goal.returns-else-len-room-clause-entered
returns-else-len-room-clause-entered c = λ before claims plan o.
    let e = at_end c.args.shelf.now c.args.edits.now claims before c.args.seat.now c.claim_journal.new.seat (hands_of c.args.hands.now.items) c.in-Ok.journal.items
    (shelf_of c.args.shelf.now c.args.seat.now c.requires.of c.requires.seat) c.requires.of plan o c.in-Ok.ensures.won in
    let t = c.enter-number.ensures in
    let of : c.enter-number.new.seat.of ≡ c.args.shelf.now = ap (λ (s : SeatSeen). s.of) t.seat ∙ (c.claim_journal.ensures.same.0 ∙ c.requires.of) in
    whole_entry c.args.shelf.now c.args.edits.now claims before c.claim_journal.new.seat c.enter-number.new.seat c.give_all-in-Ok.new.seat (hands_of c.args.hands.now.items)
    (vertices (hands_of c.enter-number.new.hands.items)) c.enter-number.result e t.seat
    (subst (λ (x : ClaimsSeen Root). IsLegalJournal x.root.points x.root.start.items c.enter-number.new.seat.seen) of t.valid.legal) t.number c.give_all-in-Ok.ensures.seat
