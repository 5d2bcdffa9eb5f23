use Rattle.std.proofs.Common.{◌≡◌, List, ◌++◌, IfOk, ◌∙◌, ap, ap₂, subst, true, false}
use Rattle.plane.specs.declared.segment.Pair.{Pair}
use Rattle.plan_defs.specs.declared.moves.Move.{Move}
use Rattle.plan_defs.specs.Plans.{look_at}
use Rattle.planner.specs.Region.{sights}
use Rattle.round_defs.specs.Candidates.{trade_moves}
use Rattle.round_plans.specs.Choices.{trades_of}
use Rattle.round_plans.specs.Found.{IsFirstPlan}
use Rattle.round_plans.specs.Listed.{marked_at}
use Rattle.round_plans.proofs.Candidates.{trades_are}
use Rattle.round_plans.proofs.round.trade_at.Goals as goal

pub returns-clause-first : goal.returns-clause-first
returns-clause-first c =
    let S = c.args.points.now in let D = c.args.costs.now in let R = sights c.args.region.now in let v = c.args.v in let list = (look_at R v).list in
    let keeps : c.as_slice.result.now ≡ marked_at false R v = c.as_slice.ensures.value ∙ c.in_ok-push_marked.ensures ∙ ap (λ (l : List Pair). l ++ marked_at false R v) c.clear.ensures.items in
    let drops : c.as_slice-2.result.now ≡ marked_at true R v = c.as_slice-2.ensures.value ∙ c.in_ok-push_marked-2.ensures ∙ ap (λ (l : List Pair). l ++ marked_at true R v) c.clear-2.ensures.items in
    let same : trades_of c.as_slice-2.result.now c.as_slice.result.now ≡ trade_moves v list = ap₂ trades_of drops keeps ∙ trades_are v list in
    let P : List Move → Type 0 = λ ms. IfOk c.first_trade.result (IsFirstPlan S D R ms) in
    subst P same c.first_trade.ensures.first
