use Rattle.std.proofs.Common.{◌+◌, List, length, length-append, ap, ◌∙◌}
use Rattle.journal_defs.specs.declared.edit.Claim.{Claim}
use Rattle.hands.proofs.Laws.{no_claim}
use Rattle.seats.specs.Seats.{ground_of}
use Rattle.board.proofs.Held.{claim_within}
use Rattle.board.proofs.Seen.{refreshing_more}
use Rattle.board.proofs.refreshing.fresh_claims.Goals as goal

pub fresh_stamp-requires-clause-vertex : goal.fresh_stamp-requires-clause-vertex
fresh_stamp-requires-clause-vertex c = claim_within (ground_of c.args.shelf.now) c.args.claims.now c.loop-k.k no_claim c.requires.within c.loop-k-test.true

pub loop-k-preserved : goal.loop-k-preserved
loop-k-preserved c =
    let i = c.loop-k.invariant in
    let long = ap (λ (l : List Claim). length l) c.push.ensures.items in
    let count = i.1 in (
      refreshing_more (ground_of c.args.shelf.now) c.args.claims.now c.loop-k.k no_claim c.args.seat.now c.loop-k.seat c.fresh_stamp.new.seat c.loop-k.fresh.items c.push.new.self.items c.in-Ok.stamp
          i.0 c.loop-k-test.true c.in-Ok.ensures.seen c.push.ensures.items,
      long ∙ (length-append c.loop-k.fresh.items _ ∙ ap (λ n. n + 1) count),
      c.fresh_stamp.ensures.valid,
    )
