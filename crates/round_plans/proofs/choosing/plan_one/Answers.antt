use Rattle.std.proofs.Common.{IfOk, sym, subst}
use Rattle.plan_defs.specs.Plans.{IsPlanned}
use Rattle.planner.specs.Region.{sights}
use Rattle.round_plans.specs.declared.choosing.Kind.{Kind}
use Rattle.round_plans.specs.Choices.{one_of}
use Rattle.round_plans.proofs.Regions.{ready_on}
use Rattle.round_plans.proofs.choosing.plan_one.Goals as goal

pub returns-in-Keeping-clause-ready : goal.returns-in-Keeping-clause-ready
returns-in-Keeping-clause-ready c = ready_on c.args.points.now c.args.region.now c.plan_swap.new.region c.requires c.plan_swap.ensures.before

pub returns-in-Flipping-clause-plan : goal.returns-in-Flipping-clause-plan
returns-in-Flipping-clause-plan c =
    let P : Kind → Type 0 = λ k. IfOk c.plan_flip_swap.result (IsPlanned c.args.points.now c.args.costs.now (sights c.args.region.now) (one_of k c.args.pair c.args.first)) in
    subst P (sym c.in-Flipping.is) c.plan_flip_swap.ensures.plan

pub returns-in-Flipping-clause-ready : goal.returns-in-Flipping-clause-ready
returns-in-Flipping-clause-ready c = ready_on c.args.points.now c.args.region.now c.plan_flip_swap.new.region c.requires c.plan_flip_swap.ensures.before
