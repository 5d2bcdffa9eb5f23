use Rattle.std.proofs.Common.{arith, ◌∙◌, List, length, ap, sym, subst}
use Rattle.edit.specs.declared.look.Look.{Look}
use Rattle.hands.specs.Hands.{hands_of, vertices, AreStamped}
use Rattle.hands.proofs.Laws.{rising_plan}
use Rattle.seats.specs.Seats.{ground_of}
use Rattle.board.proofs.Held.{keys_all}
use Rattle.board.proofs.Early.{shelf_of, may_leave, may_make, covers, undo_part, undone_part, opened, stale_early, stale_not_busy, memory_early, illegal_early}
use Rattle.board.proofs.opening.open.Goals as goal

pub claim_all-requires-clause-rising : goal.claim_all-requires-clause-rising
claim_all-requires-clause-rising c = rising_plan c.args.edits.now c.args.claims.now c.requires.plan

pub first_stale-requires : goal.first_stale-requires
first_stale-requires c = record {
  keys = ap (λ (ls : List Look). vertices (hands_of ls)) c.as_slice.ensures.value ∙ keys_all (ground_of c.args.shelf.now) c.args.claims.now c.args.seat.now c.claim_all.new.seat (hands_of c.claim_all.new.hands.items) c.in_default.ensures.holding;
}

pub returns-in-Some-clause-early : goal.returns-in-Some-clause-early
returns-in-Some-clause-early c =
    stale_early (ground_of c.args.shelf.now) c.args.edits.now c.args.claims.now c.args.seat.now c.claim_all.new.seat c.give_all-in-Some.new.seat (hands_of c.claim_all.new.hands.items) c.in-Some.refusal
    c.in_default.ensures.holding c.in_default.ensures.misses c.give_all-in-Some.ensures.seat
    (λ J st. c.in-Some.ensures.stale J (subst (λ (ls : List Look). AreStamped J (hands_of ls)) (sym c.as_slice.ensures.value) st))

pub returns-in-Some-clause-alone : goal.returns-in-Some-clause-alone
returns-in-Some-clause-alone c = λ _.
    stale_not_busy (ground_of c.args.shelf.now) c.args.claims.now c.args.seat.now c.claim_all.new.seat (hands_of c.claim_all.new.hands.items) c.in-Some.refusal c.in_default.ensures.holding
    (λ J st. c.in-Some.ensures.stale J (subst (λ (ls : List Look). AreStamped J (hands_of ls)) (sym c.as_slice.ensures.value) st))

pub returns-in-Err-make_room-clause-early : goal.returns-in-Err-make_room-clause-early
returns-in-Err-make_room-clause-early c =
    memory_early (ground_of c.args.shelf.now) c.args.edits.now c.args.claims.now c.args.seat.now c.claim_all.new.seat c.give_all-in-Err-make_room.new.seat (hands_of c.claim_all.new.hands.items)
    c.in_default.ensures.holding c.in_default.ensures.misses c.give_all-in-Err-make_room.ensures.seat
    (λ J st. c.in_default-first_stale.ensures.fresh J (subst (λ (ls : List Look). AreStamped J (hands_of ls)) (sym c.as_slice.ensures.value) st)) c.in-Err-make_room.ensures.cause

pub make_all-requires-clause-right : goal.make_all-requires-clause-right
make_all-requires-clause-right c =
    may_make c.args.shelf.now c.args.claims.now c.args.seat.now c.claim_all.new.seat (hands_of c.claim_all.new.hands.items) (hands_of c.make_room.new.hands.items)
    (shelf_of c.args.shelf.now c.args.seat.now c.requires.of c.requires.seat) c.in_default.ensures.holding c.make_room.ensures.same

pub make_all-requires-clause-covered : goal.make_all-requires-clause-covered
make_all-requires-clause-covered c =
    covers (ground_of c.args.shelf.now) c.args.edits.now c.args.claims.now c.args.seat.now c.claim_all.new.seat (hands_of c.claim_all.new.hands.items) (hands_of c.make_room.new.hands.items)
    c.requires.plan c.in_default.ensures.holding c.make_room.ensures.same

pub undo_all-requires-clause-count : goal.undo_all-requires-clause-count
undo_all-requires-clause-count c =
    let m = may_make c.args.shelf.now c.args.claims.now c.args.seat.now c.claim_all.new.seat (hands_of c.claim_all.new.hands.items) (hands_of c.make_room.new.hands.items)
    (shelf_of c.args.shelf.now c.args.seat.now c.requires.of c.requires.seat) c.in_default.ensures.holding c.make_room.ensures.same in
    let lt = (c.in-Err-make_all.ensures.illegal m.0 m.1 m.2).within in
    omega (arith, lt)

pub undo_all-requires-clause-made : goal.undo_all-requires-clause-made
undo_all-requires-clause-made c =
    undo_part c.args.shelf.now c.args.edits.now c.args.claims.now c.args.seat.now c.claim_all.new.seat (hands_of c.claim_all.new.hands.items) (hands_of c.make_room.new.hands.items)
    (hands_of c.make_all.new.hands.items) c.in-Err-make_all.at c.in-Err-make_all.why (shelf_of c.args.shelf.now c.args.seat.now c.requires.of c.requires.seat) c.in_default.ensures.holding c.make_room.ensures.same
    c.in-Err-make_all.ensures.illegal c.in-Err-make_all.ensures.before

pub give_all-requires-in-Err-make_all : goal.give_all-requires-in-Err-make_all
give_all-requires-in-Err-make_all c =
    let hs = hands_of c.claim_all.new.hands.items in
    let same = undone_part c.args.shelf.now c.args.edits.now c.args.claims.now c.args.seat.now c.claim_all.new.seat hs (hands_of c.make_room.new.hands.items) (hands_of c.make_all.new.hands.items)
    (hands_of c.undo_all.new.hands.items) c.in-Err-make_all.at c.in-Err-make_all.why (shelf_of c.args.shelf.now c.args.seat.now c.requires.of c.requires.seat) c.in_default.ensures.holding c.make_room.ensures.same
    c.in-Err-make_all.ensures.illegal c.in-Err-make_all.ensures.before c.undo_all.ensures.back in
    let x = may_leave (ground_of c.args.shelf.now) c.args.claims.now (length c.args.claims.now) c.args.seat.now c.claim_all.new.seat hs (hands_of c.undo_all.new.hands.items) c.in_default.ensures.holding same in
    record {
      of = c.claim_all.ensures.same.0 ∙ c.requires.of;
      seat = c.claim_all.ensures.valid;
      held = x.held;
      right = x.right;
      stamped = x.stamped;
    }

pub returns-in-Err-make_all-clause-early : goal.returns-in-Err-make_all-clause-early
returns-in-Err-make_all-clause-early c =
    illegal_early c.args.shelf.now c.args.edits.now c.args.claims.now c.args.seat.now c.claim_all.new.seat c.give_all-in-Err-make_all.new.seat (hands_of c.claim_all.new.hands.items) (hands_of c.make_room.new.hands.items)
    c.in-Err-make_all.at c.in-Err-make_all.why (shelf_of c.args.shelf.now c.args.seat.now c.requires.of c.requires.seat) c.in_default.ensures.holding c.in_default.ensures.misses
    c.give_all-in-Err-make_all.ensures.seat c.make_room.ensures.same
    (λ J st. c.in_default-first_stale.ensures.fresh J (subst (λ (ls : List Look). AreStamped J (hands_of ls)) (sym c.as_slice.ensures.value) st)) c.in-Err-make_all.ensures.illegal

pub returns-clause-open : goal.returns-clause-open
returns-clause-open c =
    opened c.args.shelf.now c.args.edits.now c.args.claims.now c.args.seat.now c.claim_all.new.seat (hands_of c.claim_all.new.hands.items) (hands_of c.make_room.new.hands.items) (hands_of c.make_all.new.hands.items)
    (shelf_of c.args.shelf.now c.args.seat.now c.requires.of c.requires.seat) c.in_default.ensures.holding c.in_default.ensures.misses c.make_room.ensures.same
    (λ J st. c.in_default-first_stale.ensures.fresh J (subst (λ (ls : List Look). AreStamped J (hands_of ls)) (sym c.as_slice.ensures.value) st)) c.in_default-make_all.ensures.legal c.in_default-make_all.ensures.made
