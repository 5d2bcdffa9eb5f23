use Rattle.std.proofs.Common.{List, ◌∷◌, [], map, subst}
use Rattle.plan_defs.specs.Plans.{Sight, IsPlanned}
use Rattle.planner.specs.Region.{sights}
use Rattle.round_plans.specs.Choices.{one_of}
use Rattle.round_plans.proofs.Steps.{find_if, map_parts, of_one}
use Rattle.round_plans.proofs.choosing.first_ones.Goals as goal

pub returns-then-is_some-clause-first : goal.returns-then-is_some-clause-first
returns-then-is_some-clause-first c =
    let S = c.args.points.now in let D = c.args.costs.now in let R = sights c.args.region.now in
    let move = one_of c.args.kind c.args.pair in let x = c.index-list-a.result in let o = c.in_ok-found.found in
    let P : List Sight → Type 0 = λ z. IsPlanned S D z (move x) o in
    find_if (map move) (λ y rest. move y ∷ []) S D R (map_parts move) c.args.list.now c.loop-a.a x (map move c.args.list.now) o c.is_some.result
    c.loop-a-test.true c.index-list-a.is c.loop-a.invariant.decides (of_one S D R (move x) o (subst P c.loop-a.invariant.before c.in_ok-found.ensures.plan)) c.is_some.ensures c.if-is_some.true
