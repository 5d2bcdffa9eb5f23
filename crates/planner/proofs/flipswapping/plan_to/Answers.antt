use Rattle.std.proofs.Common.{Option, Some, None, sym, subst}
use Rattle.std.specs.Prelude.{IfOk}
use Rattle.plane.specs.declared.segment.Pair.{Pair}
use Rattle.plan_defs.specs.declared.moves.Move.TheVariants.{FlipSwap}
use Rattle.plan_defs.specs.Plans.{IsPlanned}
use Rattle.planner.specs.Region.{sights}
use Rattle.planner.proofs.Planned.{turn_planned, turn_edits, ok_then}
use Rattle.planner.proofs.flipswapping.plan_to.Goals as goal

pub plan_flip_then-requires-clause-edits : goal.plan_flip_then-requires-clause-edits
plan_flip_then-requires-clause-edits c = turn_edits c.args.pair c.args.to c.args.first (Some c.in-Some.e)

pub plan_flip_then-requires-in-None-clause-edits : goal.plan_flip_then-requires-in-None-clause-edits
plan_flip_then-requires-in-None-clause-edits c = turn_edits c.args.pair c.args.to c.args.first None

pub returns-in-Some-clause-plan : goal.returns-in-Some-clause-plan
returns-in-Some-clause-plan c =
    subst (λ (o : Option Pair). IfOk c.plan_flip_then.result (IsPlanned c.args.points.now c.args.costs.now (sights c.args.region.now) (FlipSwap c.args.pair c.args.first o))) (sym c.in-Some.is)
    (ok_then _ _ c.plan_flip_then.result
    (λ o h. turn_planned c.args.points.now c.args.costs.now (sights c.args.region.now) c.args.pair c.args.to c.args.first (Some c.in-Some.e) o (λ v h. (c.requires.agree.stars v h).0) c.requires.across h) c.plan_flip_then.ensures.answer)

pub returns-in-None-clause-plan : goal.returns-in-None-clause-plan
returns-in-None-clause-plan c =
    subst (λ (o : Option Pair). IfOk c.plan_flip_then-in-None.result (IsPlanned c.args.points.now c.args.costs.now (sights c.args.region.now) (FlipSwap c.args.pair c.args.first o))) (sym c.in-None.is)
    (ok_then _ _ c.plan_flip_then-in-None.result
    (λ o h. turn_planned c.args.points.now c.args.costs.now (sights c.args.region.now) c.args.pair c.args.to c.args.first None o (λ v h. (c.requires.agree.stars v h).0) c.requires.across h) c.plan_flip_then-in-None.ensures.answer)
