use Rattle.std.proofs.Common.{ℕ, ◌∷◌, [], map, sym, subst}
use Rattle.std.specs.List.{slice_index_or}
use Rattle.plane.specs.declared.segment.Pair.{Pair}
use Rattle.hands.proofs.Laws.{own_at}
use Rattle.plan_defs.specs.declared.moves.Move.{Move}
use Rattle.plan_defs.specs.declared.moves.Move.TheVariants.{DropOne}
use Rattle.plan_defs.specs.Plans.{IsPlanned}
use Rattle.planner.specs.Region.{sights}
use Rattle.round_defs.specs.Candidates.{pair_of}
use Rattle.round_plans.proofs.Steps.{find_if, pass_if, map_parts, of_one}
use Rattle.round_plans.proofs.walking.first_drop.Goals as goal

pub returns-then-is_some : goal.returns-then-is_some
returns-then-is_some c = λ D.
    let S = c.args.points.now in let R = sights c.args.region.now in let xs = c.args.list.now in let k = c.loop-k.k in
    let move : ℕ → Move = λ q. DropOne (pair_of c.args.v q) in let x = slice_index_or xs k 0 in let o = c.plan_drop-found.result in
    let P : Pair → Type 0 = λ e. IsPlanned S D R (DropOne e) o in
    find_if (map move) (λ y rest. move y ∷ []) S D R (map_parts move) xs k x (map move xs) o c.is_some.result
    c.loop-k-test.true (sym (own_at xs k 0 c.loop-k-test.true)) (c.loop-k.invariant D) (of_one S D R (move x) o (subst P c.pair_to.ensures (c.plan_drop-found.ensures D))) c.is_some.ensures c.if-is_some.true

pub loop-k-preserved : goal.loop-k-preserved
loop-k-preserved c = λ D.
    let S = c.args.points.now in let R = sights c.args.region.now in let xs = c.args.list.now in let k = c.loop-k.k in
    let move : ℕ → Move = λ q. DropOne (pair_of c.args.v q) in let x = slice_index_or xs k 0 in let o = c.plan_drop-found.result in
    let P : Pair → Type 0 = λ e. IsPlanned S D R (DropOne e) o in
    pass_if (map move) (λ y rest. move y ∷ []) S D R (map_parts move) xs k x (map move xs) o c.is_some.result
    c.loop-k-test.true (sym (own_at xs k 0 c.loop-k-test.true)) (c.loop-k.invariant D) (of_one S D R (move x) o (subst P c.pair_to.ensures (c.plan_drop-found.ensures D))) c.is_some.ensures c.if-is_some.false
