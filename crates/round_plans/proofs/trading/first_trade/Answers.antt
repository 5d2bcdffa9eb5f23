use Rattle.std.proofs.Common.{◌+◌, List, drop, refl, subst, ◌∙◌}
use Rattle.plane.specs.declared.segment.Pair.{Pair}
use Rattle.plan_defs.specs.Plans.{Sight}
use Rattle.planner.specs.Region.{sights}
use Rattle.round_plans.specs.Choices.{trades_with, trades_of}
use Rattle.round_plans.specs.Found.{IsFirstPlan}
use Rattle.round_plans.proofs.Steps.{find_if, pass_if, ArePartsOf}
use Rattle.round_plans.proofs.trading.first_trade.Goals as goal

parts : (kept : List Pair) → ArePartsOf (trades_of kept) (λ e rest. trades_with e kept rest)
parts kept = record { none = refl; more = λ x xs. refl }

pub returns-then-is_some-clause-first : goal.returns-then-is_some-clause-first
returns-then-is_some-clause-first c =
    let S = c.args.points.now in let D = c.args.costs.now in let R = sights c.args.region.now in
    let x = c.index-spare-a.result in let o = c.in_ok-found.found in let xs = c.args.spare.now in let kept = c.args.kept.now in
    let P : List Sight → Type 0 = λ z. IsFirstPlan S D z (trades_with x kept (drop (c.loop-a.a + 1) xs)) o in
    find_if (trades_of kept) (λ e rest. trades_with e kept rest) S D R (parts kept) xs c.loop-a.a x (trades_of kept xs) o c.is_some.result
    c.loop-a-test.true c.index-spare-a.is c.loop-a.invariant.decides (subst P c.loop-a.invariant.before c.in_ok-found.ensures.first) c.is_some.ensures c.if-is_some.true

pub loop-a-preserved : goal.loop-a-preserved
loop-a-preserved c =
    let S = c.args.points.now in let D = c.args.costs.now in let R = sights c.args.region.now in
    let x = c.index-spare-a.result in let o = c.in_ok-found.found in let xs = c.args.spare.now in let kept = c.args.kept.now in
    let P : List Sight → Type 0 = λ z. IsFirstPlan S D z (trades_with x kept (drop (c.loop-a.a + 1) xs)) o in record {
      ready = c.in_ok-found.ensures.ready;
      before = c.in_ok-found.ensures.before ∙ c.loop-a.invariant.before;
      decides = pass_if (trades_of kept) (λ e rest. trades_with e kept rest) S D R (parts kept) xs c.loop-a.a x (trades_of kept xs) o c.is_some.result
          c.loop-a-test.true c.index-spare-a.is c.loop-a.invariant.decides (subst P c.loop-a.invariant.before c.in_ok-found.ensures.first) c.is_some.ensures c.if-is_some.false;
    }
