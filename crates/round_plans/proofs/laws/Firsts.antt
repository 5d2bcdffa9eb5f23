-- The first plan of each kind, and of these the first four.
use Rattle.std.proofs.Common.{ℕ, List, [], ◌∷◌, ◌++◌, refl, Some, None, Option, inl, inr}
use Rattle.plane.specs.declared.coordinates.Point.{Point}
use Rattle.cost_defs.specs.Costs.{Costed}
use Rattle.journal_defs.specs.declared.edit.Edit.{Edit}
use Rattle.edit.specs.Plans.{Planned}
use Rattle.plan_defs.specs.declared.moves.Move.{Move}
use Rattle.plan_defs.specs.Plans.{Sight, look_at}
use Rattle.round_defs.specs.Candidates.{turned, drop_moves, swap_moves, trade_moves, flip_swap_moves, flip_moves}
use Rattle.round_defs.specs.Rounds.{AreFirsts, ArePlans}
use Rattle.round_plans.specs.declared.found.RoundPlans.{RoundPlans}
use Rattle.round_plans.specs.Found.{IsFirstPlan, AreRoundPlans, listed, first_four}

-- one kind more
more_firsts : (S : List Point) (D : List Costed) (R : List Sight) (ms : List Move) (ks : List (List Move)) (o : Option Planned) (rest : List (List Edit))
    → IsFirstPlan S D R ms o → AreFirsts S D R ks rest → AreFirsts S D R (ms ∷ ks) (listed o ++ rest)
more_firsts S D R ms ks None rest first more = inr (first.first, more)
more_firsts S D R ms ks (Some p) rest first more = inl (p.edits, first.first, (rest, refl, more))

pub four_are : (S : List Point) (D : List Costed) (R : List Sight) (v k : ℕ) (p : RoundPlans) → AreRoundPlans S D R v k p → ArePlans S D R v k (first_four p)
four_are S D R v k p are =
    let list = (look_at R v).list in
    let from = turned k list in
    let five = more_firsts S D R (flip_moves v from) [] p.flip [] are.flips refl in
    let four = more_firsts S D R (flip_swap_moves R v from) (flip_moves v from ∷ []) p.flip_swap (listed p.flip ++ []) are.flip_swaps five in
    let three = more_firsts S D R (trade_moves v list) (flip_swap_moves R v from ∷ flip_moves v from ∷ []) p.trade (listed p.flip_swap ++ (listed p.flip ++ [])) are.trades four in
    let two = more_firsts S D R (swap_moves R v from) (trade_moves v list ∷ flip_swap_moves R v from ∷ flip_moves v from ∷ []) p.swap (listed p.trade ++ (listed p.flip_swap ++ (listed p.flip ++ []))) are.swaps three in
    let one = more_firsts S D R (drop_moves v from) (swap_moves R v from ∷ trade_moves v list ∷ flip_swap_moves R v from ∷ flip_moves v from ∷ []) p.drop (listed p.swap ++ (listed p.trade ++ (listed p.flip_swap ++ (listed p.flip ++ [])))) are.drops two in
    (listed p.drop ++ (listed p.swap ++ (listed p.trade ++ (listed p.flip_swap ++ (listed p.flip ++ [])))), one, refl)
