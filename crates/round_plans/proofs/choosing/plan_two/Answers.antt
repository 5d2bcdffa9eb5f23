use Rattle.std.proofs.Common.{IfOk, sym, subst, refl}
use Rattle.plan_defs.specs.Plans.{IsPlanned}
use Rattle.planner.specs.Region.{sights}
use Rattle.round_plans.specs.declared.choosing.Head.{Head}
use Rattle.round_plans.specs.Choices.{two_of}
use Rattle.round_plans.proofs.Regions.{ready_on}
use Rattle.round_plans.proofs.choosing.plan_two.Goals as goal

pub returns-in-KeepOne-clause-ready : goal.returns-in-KeepOne-clause-ready
returns-in-KeepOne-clause-ready c = ready_on c.args.points.now c.args.region.now c.plan_swap.new.region c.requires c.plan_swap.ensures.before

pub returns-in-KeepTwo-clause-plan : goal.returns-in-KeepTwo-clause-plan
returns-in-KeepTwo-clause-plan c =
    let P : Head → Type 0 = λ h. IsPlanned c.args.points.now c.args.costs.now (sights c.args.region.now) (two_of h c.args.first c.args.second) c.plan_trade.result in
    subst P (sym c.in-KeepTwo.is) (c.plan_trade.ensures.plan c.in-KeepTwo.e c.in-KeepTwo.f c.args.first c.args.second refl refl)

pub returns-in-KeepTwo-clause-ready : goal.returns-in-KeepTwo-clause-ready
returns-in-KeepTwo-clause-ready c = ready_on c.args.points.now c.args.region.now c.plan_trade.new.region c.requires c.plan_trade.ensures.before

pub returns-in-FlipFirst-clause-plan : goal.returns-in-FlipFirst-clause-plan
returns-in-FlipFirst-clause-plan c =
    let P : Head → Type 0 = λ h. IfOk c.plan_flip_swap.result (IsPlanned c.args.points.now c.args.costs.now (sights c.args.region.now) (two_of h c.args.first c.args.second)) in
    subst P (sym c.in-FlipFirst.is) c.plan_flip_swap.ensures.plan

pub returns-in-FlipFirst-clause-ready : goal.returns-in-FlipFirst-clause-ready
returns-in-FlipFirst-clause-ready c = ready_on c.args.points.now c.args.region.now c.plan_flip_swap.new.region c.requires c.plan_flip_swap.ensures.before
