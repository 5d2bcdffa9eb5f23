use Rattle.std.proofs.Common.{Option, Some, None, sym, subst}
use Rattle.plane.specs.declared.segment.Pair.{Pair}
use Rattle.plan_defs.specs.declared.moves.Move.TheVariants.{Swap}
use Rattle.plan_defs.specs.Plans.{IsPlanned}
use Rattle.planner.specs.Region.{sights}
use Rattle.planner.proofs.Planned.{swap_planned, held_of}
use Rattle.planner.proofs.swapping.plan_swap.Goals as goal

pub plan_marks-requires-clause-held : goal.plan_marks-requires-clause-held
plan_marks-requires-clause-held c = held_of c.args.points.now c.args.region.now c.requires.points c.requires.agree c.count-count.ensures.region

pub plan_marks-requires-in-None-clause-held : goal.plan_marks-requires-in-None-clause-held
plan_marks-requires-in-None-clause-held c = held_of c.args.points.now c.args.region.now c.requires.points c.requires.agree c.count-count.ensures.region

pub returns-in-Some-clause-plan : goal.returns-in-Some-clause-plan
returns-in-Some-clause-plan c =
    subst (λ (o : Option Pair). IsPlanned c.args.points.now c.args.costs.now (sights c.args.region.now) (Swap c.args.keep c.args.first o) c.plan_marks.result) (sym c.in-Some.is)
    (swap_planned c.args.points.now c.args.costs.now (sights c.args.region.now) c.args.keep c.args.first (Some c.in-Some.e) c.plan_marks.result c.plan_marks.ensures.answer)

pub returns-in-None-clause-plan : goal.returns-in-None-clause-plan
returns-in-None-clause-plan c =
    subst (λ (o : Option Pair). IsPlanned c.args.points.now c.args.costs.now (sights c.args.region.now) (Swap c.args.keep c.args.first o) c.plan_marks-in-None.result) (sym c.in-None.is)
    (swap_planned c.args.points.now c.args.costs.now (sights c.args.region.now) c.args.keep c.args.first None c.plan_marks-in-None.result c.plan_marks-in-None.ensures.answer)
