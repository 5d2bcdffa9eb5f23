use Rattle.std.proofs.Common.{◌≡◌, sym, ap, subst, ◌∙◌}
use Rattle.vertex_claims.specs.Holding.{ClaimsSeen}
use Rattle.seats.specs.declared.cells.Root.{Root}
use Rattle.seats.specs.declared.cells.Cell.TheVariants.{Journal}
use Rattle.seats.specs.Cells.{CellFits}
use Rattle.seats.specs.Seats.{SeatSeen}
use Rattle.seats.specs.Claimed.{IsJournalTaken}
use Rattle.seats.specs.Resting.{seat_of}
use Rattle.seats.proofs.Tried.{joined, missed_seat, journal_taken}
use Rattle.seats.proofs.shelf.Shelf.try_journal.Goals as goal

-- where the try was lost
pub invariant_of-seat : goal.invariant_of-seat
invariant_of-seat c = missed_seat c.seat.inside.holder c.take.new.by c.seat.inside.share c.seat.inside.caller c.seat.inside.made _ c.seat.invariant c.in-Err.ensures.lost

-- where it was won
pub invariant_of-seat-in-Ok : goal.invariant_of-seat-in-Ok
invariant_of-seat-in-Ok c =
    let same : c.seat.inside.holder.of ≡ c.self.inside.claims = ap (λ (z : SeatSeen). z.of) c.seat.view_is ∙ (c.requires.of ∙ sym c.self.view_is) in
    let f : CellFits c.seat.inside.holder.of.root c.len-place.result (Journal c.in-Journal.commits c.in-Journal.share) =
    subst (λ (z : ClaimsSeen Root). CellFits z.root c.len-place.result (Journal c.in-Journal.commits c.in-Journal.share)) (sym same)
    (subst (CellFits c.self.inside.claims.root c.len-place.result) c.in-Journal.is c.in-Ok.ensures.cell) in
    joined c.seat.inside.holder c.take.new.by c.seat.inside.share c.join_parts.new.into c.in-Journal.share c.seat.inside.caller c.seat.inside.made c.len-place.result c.seat.invariant f.1 c.in-Ok.ensures.won
    c.join_parts.ensures.both c.join_parts.ensures.into c.take.ensures.valid c.join_parts.ensures.valid

pub returns-in-Journal-clause-won : goal.returns-in-Journal-clause-won
returns-in-Journal-clause-won c =
    let same : c.seat.inside.holder.of ≡ c.self.inside.claims = ap (λ (z : SeatSeen). z.of) c.seat.view_is ∙ (c.requires.of ∙ sym c.self.view_is) in
    let f : CellFits c.seat.inside.holder.of.root c.len-place.result (Journal c.in-Journal.commits c.in-Journal.share) =
    subst (λ (z : ClaimsSeen Root). CellFits z.root c.len-place.result (Journal c.in-Journal.commits c.in-Journal.share)) (sym same)
    (subst (CellFits c.self.inside.claims.root c.len-place.result) c.in-Journal.is c.in-Ok.ensures.cell) in
    subst (λ (z : SeatSeen). IsJournalTaken z (seat_of c.take.new.by c.join_parts.new.into) c.in-Journal.commits.items) c.seat.view_is
    (journal_taken c.seat.inside.holder c.take.new.by c.seat.inside.share c.join_parts.new.into c.in-Journal.share c.seat.inside.caller c.seat.inside.made c.len-place.result c.in-Journal.commits.items c.seat.invariant
    f.0 f.1 f.2 f.3 c.in-Ok.ensures.won c.join_parts.ensures.both c.join_parts.ensures.into c.join_parts.ensures.from)
