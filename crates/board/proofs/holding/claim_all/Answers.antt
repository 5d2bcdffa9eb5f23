use Rattle.std.proofs.Common.{rules, arith, ◌∙◌, ap, refl}
use Rattle.hands.specs.Hands.{hands_of}
use Rattle.hands.proofs.Laws.{no_claim}
use Rattle.seats.specs.Seats.{SeatSeen, ground_of}
use Rattle.board.proofs.Held.{free_claim, claim_within, holding_none, holding_more, missed_at, held_count}
use Rattle.board.proofs.holding.claim_all.Goals as goal

pub loop-k-init : goal.loop-k-init
loop-k-init c = (holding_none c.args.shelf.now c.args.claims.now c.args.seat.now c.args.hands.now.items c.requires.of c.requires.seat c.requires.held c.requires.hands, refl, (omega arith), c.requires.seat)

pub claim_one-requires : goal.claim_one-requires
claim_one-requires c =
    let i = c.loop-k.invariant in
    let o = i.0 in
    let most = i.2 in
    let count = held_count (ground_of c.args.shelf.now) c.args.claims.now c.loop-k.k c.args.seat.now c.loop-k.seat c.loop-k.hands.items o (omega (arith, c.loop-k-test.true)) in
    record {
      of = o.of ∙ c.requires.of;
      vertex = claim_within (ground_of c.args.shelf.now) c.args.claims.now c.loop-k.k no_claim c.requires.within c.loop-k-test.true;
      free = free_claim c.args.claims.now c.loop-k.k no_claim c.loop-k.seat.held (o.held ∙ o.keys) c.requires.rising c.loop-k-test.true;
      room = search rules;
    }

pub loop-k-preserved : goal.loop-k-preserved
loop-k-preserved c =
    let i = c.loop-k.invariant in
    let grown = c.claim_one.ensures.capacity in
    let most = i.2 in (
      holding_more c.args.shelf.now c.args.claims.now c.loop-k.k no_claim c.args.seat.now c.loop-k.seat c.claim_one.new.seat _ _ c.requires.of i.0 c.in-Ok.ensures.taken c.loop-k-test.true,
      ap (λ (s : SeatSeen). s.misses) c.in-Ok.ensures.taken.won.seat ∙ i.1,
      omega (arith, grown, most),
      c.claim_one.ensures.valid,
    )

pub returns-in-Err-clause-busy : goal.returns-in-Err-clause-busy
returns-in-Err-clause-busy c =
    let i = c.loop-k.invariant in
    missed_at c.args.shelf.now c.args.claims.now c.loop-k.k no_claim c.args.seat.now c.loop-k.seat c.claim_one.new.seat c.in-Err.holder _ _ c.requires.of i.0 i.1 c.in-Err.ensures.missed (ap hands_of c.in-Err.ensures.kept) c.loop-k-test.true
