use Rattle.std.proofs.Common.{◌+◌, List, drop, map, refl, subst, ◌∙◌}
use Rattle.plane.specs.declared.segment.Pair.{Pair}
use Rattle.plan_defs.specs.declared.moves.Move.{Move}
use Rattle.plan_defs.specs.Plans.{Sight}
use Rattle.planner.specs.Region.{sights}
use Rattle.round_plans.specs.Choices.{two_of, twos_of}
use Rattle.round_plans.specs.Found.{IsFirstPlan}
use Rattle.round_plans.proofs.Steps.{find_if, pass_if, ArePartsOf}
use Rattle.round_plans.proofs.choosing.first_twos.Goals as goal

parts : (move : Pair → Pair → Move) → ArePartsOf (twos_of move) (λ x rest. map (move x) rest)
parts move = record { none = refl; more = λ x xs. refl }

pub returns-then-is_some-clause-first : goal.returns-then-is_some-clause-first
returns-then-is_some-clause-first c =
    let S = c.args.points.now in let D = c.args.costs.now in let R = sights c.args.region.now in
    let move = two_of c.args.head in let x = c.index-list-a.result in let o = c.in_ok-found.found in let xs = c.args.list.now in
    let P : List Sight → Type 0 = λ z. IsFirstPlan S D z (map (move x) (drop (c.loop-a.a + 1) xs)) o in
    find_if (twos_of move) (λ y rest. map (move y) rest) S D R (parts move) xs c.loop-a.a x (twos_of move xs) o c.is_some.result
    c.loop-a-test.true c.index-list-a.is c.loop-a.invariant.decides (subst P c.loop-a.invariant.before c.in_ok-found.ensures.first) c.is_some.ensures c.if-is_some.true

pub loop-a-preserved : goal.loop-a-preserved
loop-a-preserved c =
    let S = c.args.points.now in let D = c.args.costs.now in let R = sights c.args.region.now in
    let move = two_of c.args.head in let x = c.index-list-a.result in let o = c.in_ok-found.found in let xs = c.args.list.now in
    let P : List Sight → Type 0 = λ z. IsFirstPlan S D z (map (move x) (drop (c.loop-a.a + 1) xs)) o in record {
      ready = c.in_ok-found.ensures.ready;
      before = c.in_ok-found.ensures.before ∙ c.loop-a.invariant.before;
      decides = pass_if (twos_of move) (λ y rest. map (move y) rest) S D R (parts move) xs c.loop-a.a x (twos_of move xs) o c.is_some.result
          c.loop-a-test.true c.index-list-a.is c.loop-a.invariant.decides (subst P c.loop-a.invariant.before c.in_ok-found.ensures.first) c.is_some.ensures c.if-is_some.false;
    }
