use Rattle.std.proofs.Common.{◌≡◌, sym, ap, subst, ◌∙◌}
use Rattle.vertex_claims.specs.Holding.{ClaimsSeen}
use Rattle.hands.specs.Hands.{hand_of}
use Rattle.seats.specs.declared.cells.Root.{Root}
use Rattle.seats.specs.Cells.{VertexFits, CellFits}
use Rattle.seats.specs.Seats.{SeatSeen}
use Rattle.seats.specs.Claimed.{IsWon, IsMissed}
use Rattle.seats.specs.Resting.{seat_of}
use Rattle.seats.proofs.Tried.{won, joined, missed, missed_seat}
use Rattle.seats.proofs.shelf.Shelf.claim.Goals as goal

-- where the try was lost
pub invariant_of-seat : goal.invariant_of-seat
invariant_of-seat c = missed_seat c.seat.inside.holder c.take.new.by c.seat.inside.share c.seat.inside.caller c.seat.inside.made _ c.seat.invariant c.in-Err.ensures.lost

pub returns-in-Err-clause-missed : goal.returns-in-Err-clause-missed
returns-in-Err-clause-missed c =
    subst (λ (z : SeatSeen). IsMissed z (seat_of c.take.new.by c.seat.inside.share) c.args.vertex c.in-Err.taken.holder) c.seat.view_is
    (missed c.seat.inside.holder c.take.new.by c.seat.inside.share c.args.vertex c.in-Err.taken.holder c.in-Err.ensures.lost c.in-Err.ensures.another)

-- where it was won
pub invariant_of-seat-in-Ok : goal.invariant_of-seat-in-Ok
invariant_of-seat-in-Ok c =
    let same : c.seat.inside.holder.of ≡ c.self.inside.claims = ap (λ (z : SeatSeen). z.of) c.seat.view_is ∙ (c.requires.of ∙ sym c.self.view_is) in
    let f : VertexFits c.seat.inside.holder.of.root c.args.vertex c.in-Vertex.look c.in-Vertex.share =
    subst (λ (z : ClaimsSeen Root). VertexFits z.root c.args.vertex c.in-Vertex.look c.in-Vertex.share) (sym same) (subst (CellFits c.self.inside.claims.root c.args.vertex) c.in-Vertex.is c.in-Ok.ensures.cell) in
    joined c.seat.inside.holder c.take.new.by c.seat.inside.share c.join_parts.new.into c.in-Vertex.share c.seat.inside.caller c.seat.inside.made c.args.vertex c.seat.invariant f.part c.in-Ok.ensures.won
    c.join_parts.ensures.both c.join_parts.ensures.into c.take.ensures.valid c.join_parts.ensures.valid

pub returns-in-Vertex-clause-won : goal.returns-in-Vertex-clause-won
returns-in-Vertex-clause-won c =
    let same : c.seat.inside.holder.of ≡ c.self.inside.claims = ap (λ (z : SeatSeen). z.of) c.seat.view_is ∙ (c.requires.of ∙ sym c.self.view_is) in
    let f : VertexFits c.seat.inside.holder.of.root c.args.vertex c.in-Vertex.look c.in-Vertex.share =
    subst (λ (z : ClaimsSeen Root). VertexFits z.root c.args.vertex c.in-Vertex.look c.in-Vertex.share) (sym same) (subst (CellFits c.self.inside.claims.root c.args.vertex) c.in-Vertex.is c.in-Ok.ensures.cell) in
    subst (λ (z : SeatSeen). IsWon z (seat_of c.take.new.by c.join_parts.new.into) c.args.vertex (hand_of c.in-Vertex.look)) c.seat.view_is
    (won c.seat.inside.holder c.take.new.by c.seat.inside.share c.join_parts.new.into c.in-Vertex.share c.seat.inside.caller c.seat.inside.made c.args.vertex c.in-Vertex.look c.seat.invariant f c.in-Ok.ensures.won
    c.join_parts.ensures.both c.join_parts.ensures.into c.join_parts.ensures.from)
