use Rattle.std.proofs.Common.{rules, ◌≡◌, ℕ, [], ◌∷◌, sym, ap, subst, ◌∙◌}
use Rattle.vertex_claims.specs.Holding.{ClaimsSeen}
use Rattle.seats.specs.declared.cells.Root.{Root}
use Rattle.seats.specs.Cells.{VertexFits}
use Rattle.seats.specs.Seats.{SeatSeen}
use Rattle.seats.proofs.Tried.{vertex_given}
use Rattle.seats.proofs.shelf.Shelf.give.Goals as goal

pub give_back-requires-clause-fits : goal.give_back-requires-clause-fits
give_back-requires-clause-fits c =
    let same : c.seat.inside.holder.of ≡ c.self.inside.claims = ap (λ (z : SeatSeen). z.of) c.seat.view_is ∙ (c.requires.of ∙ sym c.self.view_is) in
    let centre : c.centre-vertex.result ≡ c.args.look.star.centre = search rules in
    subst (λ (z : ClaimsSeen Root). VertexFits z.root c.centre-vertex.result c.args.look c.split_parts-share.result) same
    (subst (λ (n : ℕ). VertexFits c.seat.inside.holder.of.root n c.args.look c.split_parts-share.result) (sym centre)
    (vertex_given c.seat.inside.holder c.seat.inside.share c.split_parts-share.result c.seat.inside.caller c.seat.inside.made c.args.look c.seat.invariant
    (c.split_parts-share.ensures.right ∙ ap (λ (n : ℕ). record c.seat.inside.share { caller = 0; mine = []; parts = n ∷ [] }) centre) (search rules) (search rules)))
