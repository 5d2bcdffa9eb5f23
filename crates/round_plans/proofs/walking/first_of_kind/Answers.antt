use Rattle.std.proofs.Common.{List, sym, subst, ◌∙◌}
use Rattle.std.specs.List.{slice_index_or, flat_map}
use Rattle.hands.proofs.Laws.{own_at}
use Rattle.plan_defs.specs.Plans.{Sight}
use Rattle.planner.specs.Region.{sights}
use Rattle.round_plans.specs.Choices.{moves_at, moves_of}
use Rattle.round_plans.specs.Found.{IsFirstPlan}
use Rattle.round_plans.proofs.Steps.{find_if, pass_if, flat_parts}
use Rattle.round_plans.proofs.walking.first_of_kind.Goals as goal

pub returns-then-is_some-clause-first : goal.returns-then-is_some-clause-first
returns-then-is_some-clause-first c =
    let S = c.args.points.now in let D = c.args.costs.now in let R = sights c.args.region.now in let xs = c.args.list.now in let k = c.loop-k.k in
    let kind = c.args.kind in let v = c.args.v in let x = slice_index_or xs k 0 in let o = c.in_ok-found.found in
    let P : List Sight → Type 0 = λ z. IsFirstPlan S D z (moves_at kind z v x) o in
    find_if (flat_map (moves_at kind R v)) (λ q rest. moves_at kind R v q) S D R (flat_parts (moves_at kind R v)) xs k x (moves_of kind R v xs) o c.is_some.result
    c.loop-k-test.true (sym (own_at xs k 0 c.loop-k-test.true)) c.loop-k.invariant.decides (subst P c.loop-k.invariant.before c.in_ok-found.ensures.first) c.is_some.ensures c.if-is_some.true

pub loop-k-preserved : goal.loop-k-preserved
loop-k-preserved c =
    let S = c.args.points.now in let D = c.args.costs.now in let R = sights c.args.region.now in let xs = c.args.list.now in let k = c.loop-k.k in
    let kind = c.args.kind in let v = c.args.v in let x = slice_index_or xs k 0 in let o = c.in_ok-found.found in
    let P : List Sight → Type 0 = λ z. IsFirstPlan S D z (moves_at kind z v x) o in record {
      ready = c.in_ok-found.ensures.ready;
      before = c.in_ok-found.ensures.before ∙ c.loop-k.invariant.before;
      decides = pass_if (flat_map (moves_at kind R v)) (λ q rest. moves_at kind R v q) S D R (flat_parts (moves_at kind R v)) xs k x (moves_of kind R v xs) o c.is_some.result
          c.loop-k-test.true (sym (own_at xs k 0 c.loop-k-test.true)) c.loop-k.invariant.decides (subst P c.loop-k.invariant.before c.in_ok-found.ensures.first) c.is_some.ensures c.if-is_some.false;
    }
