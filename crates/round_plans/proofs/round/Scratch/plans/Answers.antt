use Rattle.std.proofs.Common.{◌≡◌, List, ◌∙◌, ap, subst, true, false, refl}
use Rattle.plan_defs.specs.Plans.{Sight, look_at}
use Rattle.planner.specs.Region.{sights}
use Rattle.round_defs.specs.Candidates.{turned, drop_moves, swap_moves, trade_moves, flip_swap_moves, flip_moves}
use Rattle.round_plans.specs.declared.choosing.Kind.TheVariants.{Keeping, Flipping}
use Rattle.round_plans.specs.Choices.{moves_of, drops_to, flips_to}
use Rattle.round_plans.specs.Found.{IsFirstPlan}
use Rattle.round_plans.specs.Listed.{names, marked}
use Rattle.round_plans.proofs.Candidates.{drops_are, swaps_are, flip_swaps_are, flips_are}
use Rattle.round_plans.proofs.Steps.{moved}
use Rattle.round_plans.proofs.round.Scratch.plans.Goals as goal

pub returns-clause-plans : goal.returns-clause-plans
returns-clause-plans c =
    let S = c.args.points.now in let D = c.args.costs.now in let R = sights c.args.region.now in let v = c.args.v in
    let list = (look_at R v).list in let from = turned c.args.from list in
    let kept : c.deref.result.now ≡ names (marked true from) = c.deref.ensures.value ∙ c.in_ok-list_from.ensures.names in
    let spare : c.deref-2.result.now ≡ names (marked false from) = c.deref-2.ensures.value ∙ c.in_ok-list_from-2.ensures.names in
    let spare_again : c.deref-3.result.now ≡ names (marked false from) = c.deref-3.ensures.value ∙ c.in_ok-list_from-2.ensures.names in
    let spare_last : c.deref-4.result.now ≡ names (marked false from) = c.deref-4.ensures.value ∙ c.in_ok-list_from-2.ensures.names in
    let second = c.in_ok-swap.ensures.before in
    let third = c.in_ok-trade.ensures.before ∙ second in
    let fourth = c.in_ok-flip_swap.ensures.before ∙ third in
    let T = sights c.first_of_kind.new.region in
    let U = sights c.trade_at.new.region in
    let V = sights c.first_of_kind-2.new.region in
    let P : List Sight → Type 0 = λ z. IsFirstPlan S D z (trade_moves v (look_at z v).list) c.in_ok-trade.trade in
    let Q : List Sight → Type 0 = λ z. IsFirstPlan S D z (moves_of Flipping z v c.deref-3.result.now) c.in_ok-flip_swap.flip_swap in record {
      drops = moved S D R R (drops_to v c.deref.result.now) (drop_moves v from) c.first_drop-drop.result (let e : R ≡ R = refl in e) (ap (drops_to v) kept ∙ drops_are v from) (c.first_drop-drop.ensures D);
      swaps = moved S D R R (moves_of Keeping R v c.deref-2.result.now) (swap_moves R v from) c.in_ok-swap.swap (let e : R ≡ R = refl in e) (ap (moves_of Keeping R v) spare ∙ swaps_are R v from) c.in_ok-swap.ensures.first;
      trades = subst P second c.in_ok-trade.ensures.first;
      flip_swaps = moved S D R R (moves_of Flipping R v c.deref-3.result.now) (flip_swap_moves R v from) c.in_ok-flip_swap.flip_swap (let e : R ≡ R = refl in e) (ap (moves_of Flipping R v) spare_again ∙ flip_swaps_are R v from) (subst Q third c.in_ok-flip_swap.ensures.first);
      flips = moved S D V R (flips_to v c.deref-4.result.now) (flip_moves v from) c.first_flip-flip.result fourth (ap (flips_to v) spare_last ∙ flips_are v from) (c.first_flip-flip.ensures D);
    }
