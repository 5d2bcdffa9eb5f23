-- The plans of a round: the first of each kind.
use Rattle.std.specs.Prelude.{ℕ, List, [], ◌∷◌, ◌++◌, take, Option, Some, None}
use Rattle.plane.specs.declared.coordinates.Point.{Point}
use Rattle.cost_defs.specs.Costs.{Costed}
use Rattle.journal_defs.specs.declared.edit.Edit.{Edit}
use Rattle.edit.specs.Plans.{Planned}
use Rattle.plan_defs.specs.declared.moves.Move.{Move}
use Rattle.plan_defs.specs.Plans.{Sight, look_at, IsPlanned}
use Rattle.round_defs.specs.Candidates.{turned, drop_moves, swap_moves, trade_moves, flip_swap_moves, flip_moves}
use Rattle.round_defs.specs.Rounds.{IsFirst}
use Rattle.round_plans.specs.declared.found.RoundPlans.{RoundPlans}

-- the edits of an answer
abbrev pub edits_of : Option Planned → Option (List Edit)
edits_of None = None
edits_of (Some p) = Some p.edits

-- a plan is the planner's answer for some move
abbrev pub IsOffered : List Point → List Costed → List Sight → Option Planned → Type 0
IsOffered S D R None = Unit {0}
IsOffered S D R (Some p) = (m : Move) × IsPlanned S D R m (Some p)

-- the plan of the first candidate that fits, or none where none fits
pub record IsFirstPlan (S : List Point) (D : List Costed) (R : List Sight) (ms : List Move) (o : Option Planned) : Type 0 where
  pub first : IsFirst S D R ms (edits_of o)
  pub offered : IsOffered S D R o

-- the first plan of each kind at v, from position k
pub record AreRoundPlans (S : List Point) (D : List Costed) (R : List Sight) (v k : ℕ) (p : RoundPlans) : Type 0 where
  pub drops : IsFirstPlan S D R (drop_moves v (turned k (look_at R v).list)) p.drop
  pub swaps : IsFirstPlan S D R (swap_moves R v (turned k (look_at R v).list)) p.swap
  pub trades : IsFirstPlan S D R (trade_moves v (look_at R v).list) p.trade
  pub flip_swaps : IsFirstPlan S D R (flip_swap_moves R v (turned k (look_at R v).list)) p.flip_swap
  pub flips : IsFirstPlan S D R (flip_moves v (turned k (look_at R v).list)) p.flip

-- those that there are, by their edits, and the first four of them
abbrev pub listed : Option Planned → List (List Edit)
listed None = []
listed (Some p) = p.edits ∷ []

abbrev pub first_four : RoundPlans → List (List Edit)
first_four p = take 4 (listed p.drop ++ (listed p.swap ++ (listed p.trade ++ (listed p.flip_swap ++ (listed p.flip ++ [])))))
