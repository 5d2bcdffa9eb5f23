use Rattle.std.proofs.Common.{◌∙◌, sym, subst}
use Rattle.std.specs.Prelude.{IfOk}
use Rattle.vertex_claims.specs.Holding.{ClaimsSeen}
use Rattle.seats.specs.declared.cells.Root.{Root}
use Rattle.seats.specs.Seats.{SeatSeen, ground_of}
use Rattle.board.specs.Looks.{IsRefreshed}
use Rattle.board.proofs.Seen.{refreshed}
use Rattle.board.proofs.board.Board.refresh.Goals.{in-Ok, in-Err}
use Rattle.board.proofs.board.Board.refresh.Goals as goal

pub returns-clause-fresh : goal.returns-clause-fresh
returns-clause-fresh c = elim c.match-fresh_claims.branch [
  | in-Ok w ↦
      subst (λ r. IfOk r (IsRefreshed (ground_of c.args.self.now) c.args.pass.now c.fresh_claims.new.seat c.args.plan)) (sym w.result-is)
      (subst (λ (z : ClaimsSeen Root). IsRefreshed (ground_of z) c.args.pass.now c.fresh_claims.new.seat c.args.plan w.with_claims.result) c.self.view_is
      (subst (λ (z : SeatSeen). IsRefreshed (ground_of c.self.inside.shelf) z c.fresh_claims.new.seat c.args.plan w.with_claims.result) c.pass.view_is
      (refreshed (ground_of c.self.inside.shelf) c.claims.result.now c.pass.inside.seat c.fresh_claims.new.seat w.in-Ok.fresh.items c.args.plan w.with_claims.result
      w.in-Ok.ensures.fresh c.claims.ensures.claims w.with_claims.ensures.0 (w.with_claims.ensures.1 ∙ w.as_slice.ensures.value))))
  | in-Err w ↦ subst (λ r. IfOk r (IsRefreshed (ground_of c.args.self.now) c.args.pass.now c.fresh_claims.new.seat c.args.plan)) (sym w.result-is) tt
]
