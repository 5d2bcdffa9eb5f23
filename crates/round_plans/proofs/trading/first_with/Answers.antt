use Rattle.std.proofs.Common.{List, drop, refl, subst, ◌∙◌}
use Rattle.plane.specs.declared.segment.Pair.{Pair}
use Rattle.plan_defs.specs.Plans.{Sight}
use Rattle.planner.specs.Region.{sights}
use Rattle.round_plans.specs.declared.choosing.Head.TheVariants.{KeepTwo}
use Rattle.round_plans.specs.Choices.{two_of, twos_of, trades_with}
use Rattle.round_plans.specs.Found.{IsFirstPlan}
use Rattle.round_plans.proofs.Steps.{find_if, pass_if, ArePartsOf}
use Rattle.round_plans.proofs.trading.first_with.Goals as goal

parts : (e : Pair) (kept : List Pair) → ArePartsOf (trades_with e kept) (λ f rest. twos_of (two_of (KeepTwo e f)) kept)
parts e kept = record { none = refl; more = λ x xs. refl }

pub returns-then-is_some-clause-first : goal.returns-then-is_some-clause-first
returns-then-is_some-clause-first c =
    let S = c.args.points.now in let D = c.args.costs.now in let R = sights c.args.region.now in
    let x = c.index-spare-b.result in let o = c.in_ok-found.found in let xs = c.args.spare.now in let kept = c.args.kept.now in let e = c.args.keep in
    let P : List Sight → Type 0 = λ z. IsFirstPlan S D z (twos_of (two_of (KeepTwo e x)) kept) o in
    find_if (trades_with e kept) (λ f rest. twos_of (two_of (KeepTwo e f)) kept) S D R (parts e kept) xs c.loop-b.b x (trades_with e kept (drop c.args.from xs)) o c.is_some.result
    c.loop-b-test.true c.index-spare-b.is c.loop-b.invariant.decides (subst P c.loop-b.invariant.before c.in_ok-found.ensures.first) c.is_some.ensures c.if-is_some.true

pub loop-b-preserved : goal.loop-b-preserved
loop-b-preserved c =
    let S = c.args.points.now in let D = c.args.costs.now in let R = sights c.args.region.now in
    let x = c.index-spare-b.result in let o = c.in_ok-found.found in let xs = c.args.spare.now in let kept = c.args.kept.now in let e = c.args.keep in
    let P : List Sight → Type 0 = λ z. IsFirstPlan S D z (twos_of (two_of (KeepTwo e x)) kept) o in record {
      ready = c.in_ok-found.ensures.ready;
      before = c.in_ok-found.ensures.before ∙ c.loop-b.invariant.before;
      decides = pass_if (trades_with e kept) (λ f rest. twos_of (two_of (KeepTwo e f)) kept) S D R (parts e kept) xs c.loop-b.b x (trades_with e kept (drop c.args.from xs)) o c.is_some.result
          c.loop-b-test.true c.index-spare-b.is c.loop-b.invariant.decides (subst P c.loop-b.invariant.before c.in_ok-found.ensures.first) c.is_some.ensures c.if-is_some.false;
    }
