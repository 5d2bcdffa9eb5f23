use Rattle.std.proofs.Common.{◌≡◌, ◌∙◌, List, sym, subst}
use Rattle.std.specs.Prelude.{IfOk}
use Rattle.journal_defs.specs.declared.edit.Edit.{Edit}
use Rattle.journal_defs.specs.declared.edit.Claim.{Claim}
use Rattle.edit.specs.Plans.{IsPlan}
use Rattle.hands.specs.Hands.{hands_of}
use Rattle.seats.specs.Seats.{ground_of}
use Rattle.board.specs.Answers.{IsEntered}
use Rattle.board.specs.Phases.{IsOpen}
use Rattle.board.proofs.Ends.{entered_as}
use Rattle.board.proofs.board.Board.commit.Goals.{in-Ok, in-Err-close}
use Rattle.board.proofs.board.Board.commit.Goals as goal

plan_as : (edits es : List Edit) (claims cs : List Claim) → es ≡ edits → cs ≡ claims → IsPlan edits claims → IsPlan es cs
plan_as edits es claims cs e f p = subst (λ (x : List Edit). IsPlan x cs) (sym e) (subst (IsPlan edits) (sym f) p)

pub close-requires-clause-open : goal.close-requires-clause-open
close-requires-clause-open g c =
    let same : c.edits.result.now ≡ c.edits-2.result.now = c.edits.ensures.edits ∙ sym c.edits-2.ensures.edits in (
      c.pass.inside.seat,
      c.claims.result.now,
      plan_as c.args.plan.edits c.edits-2.result.now c.args.plan.claims c.claims.result.now c.edits-2.ensures.edits c.claims.ensures.claims c.claims.ensures.plan,
      subst (λ (es : List Edit). IsOpen (ground_of c.self.inside.shelf) es c.claims.result.now c.pass.inside.seat c.open.new.seat (hands_of c.open.new.hands.items)) same c.in_default.ensures.«open»,
    )

pub returns-clause-entered : goal.returns-clause-entered
returns-clause-entered g c = elim c.match-close.branch [
  | in-Ok w ↦
      let same : c.edits.result.now ≡ c.edits-2.result.now = c.edits.ensures.edits ∙ sym c.edits-2.ensures.edits in
      subst (λ r. IfOk r (IsEntered (ground_of c.args.self.now) c.args.plan.edits c.args.plan.claims c.args.pass.now c.close.new.seat)) (sym w.result-is)
      (entered_as c.self.inside.shelf c.args.self.now c.edits-2.result.now c.args.plan.edits c.claims.result.now c.args.plan.claims c.pass.inside.seat c.args.pass.now c.close.new.seat _
      c.self.view_is c.edits-2.ensures.edits c.claims.ensures.claims c.pass.view_is
      (w.in-Ok.ensures.entered c.pass.inside.seat c.claims.result.now
      (plan_as c.args.plan.edits c.edits-2.result.now c.args.plan.claims c.claims.result.now c.edits-2.ensures.edits c.claims.ensures.claims c.claims.ensures.plan)
      (subst (λ (es : List Edit). IsOpen (ground_of c.self.inside.shelf) es c.claims.result.now c.pass.inside.seat c.open.new.seat (hands_of c.open.new.hands.items)) same c.in_default.ensures.«open»)))
  | in-Err-close w ↦ subst (λ r. IfOk r (IsEntered (ground_of c.args.self.now) c.args.plan.edits c.args.plan.claims c.args.pass.now c.close.new.seat)) (sym w.result-is) tt
]
