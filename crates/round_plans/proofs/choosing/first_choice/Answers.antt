use Rattle.std.proofs.Common.{List, Option, map, subst}
use Rattle.edit.specs.Plans.{Planned}
use Rattle.plan_defs.specs.Plans.{Sight}
use Rattle.planner.specs.Region.{sights}
use Rattle.round_plans.specs.declared.choosing.Head.{Head}
use Rattle.round_plans.specs.Choices.{head_of, two_of, one_of, twos_of, choices_of}
use Rattle.round_plans.specs.Found.{IsFirstPlan}
use Rattle.round_plans.proofs.Steps.{here_first, then_first, on_ok}
use Rattle.round_plans.proofs.choosing.first_choice.Goals as goal

pub returns-then-is_some-clause-first : goal.returns-then-is_some-clause-first
returns-then-is_some-clause-first c =
    let S = c.args.points.now in let D = c.args.costs.now in let R = sights c.args.region.now in let xs = c.args.list.now in
    let o = c.in_ok-found.found in let k = c.args.kind in let e = c.args.pair in
    let P : Head → Type 0 = λ h. IsFirstPlan S D R (twos_of (two_of h) xs) o in
    here_first S D R (twos_of (two_of (head_of k e)) xs) (map (one_of k e) xs) o c.is_some.result c.is_some.ensures c.if-is_some.true (subst P c.head_of.ensures c.in_ok-found.ensures.first)

pub returns-clause-first : goal.returns-clause-first
returns-clause-first c =
    let S = c.args.points.now in let D = c.args.costs.now in let R = sights c.args.region.now in let xs = c.args.list.now in
    let o = c.in_ok-found.found in let k = c.args.kind in let e = c.args.pair in let T = sights c.first_twos.new.region in
    let P : Head → Type 0 = λ h. IsFirstPlan S D R (twos_of (two_of h) xs) o in
    on_ok c.first_ones.result (λ (u : Option Planned). IsFirstPlan S D T (map (one_of k e) xs) u) (λ (u : Option Planned). IsFirstPlan S D R (choices_of k e xs) u)
    (λ u h. let Q : List Sight → Type 0 = λ z. IsFirstPlan S D z (map (one_of k e) xs) u in
    then_first S D R (twos_of (two_of (head_of k e)) xs) (map (one_of k e) xs) o u c.is_some.result c.is_some.ensures c.if-is_some.false
    (subst P c.head_of.ensures c.in_ok-found.ensures.first) (subst Q c.in_ok-found.ensures.before h))
    c.first_ones.ensures.first
