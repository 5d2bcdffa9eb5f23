-- For private clauses.
-- The candidates of a round as the walk goes through them.
use Rattle.std.specs.Prelude.{ℕ, List, [], ◌∷◌, ◌++◌, map, Some, None}
use Rattle.std.specs.List.{flat_map}
use Rattle.plane.specs.declared.coordinates.Point.{Point}
use Rattle.plane.specs.declared.segment.Pair.{Pair}
use Rattle.edit.specs.declared.look.Look.{Look}
use Rattle.plan_defs.specs.declared.Move.{Move}
use Rattle.plan_defs.specs.declared.Move.TheVariants.{DropOne, Swap, Trade, FlipOne, FlipSwap}
use Rattle.plan_defs.specs.Plans.{Sight}
use Rattle.planner.specs.Region.{AreFor, DoAgree}
use Rattle.round_defs.specs.Candidates.{pair_of, drop_list}
use Rattle.round_plans.specs.declared.choosing.Head.{Head}
use Rattle.round_plans.specs.declared.choosing.Head.TheVariants.{KeepOne, KeepTwo, FlipFirst}
use Rattle.round_plans.specs.declared.choosing.Kind.{Kind}
use Rattle.round_plans.specs.declared.choosing.Kind.TheVariants.{Keeping, Flipping}

-- the region is for these points, and its stars agree
pub record IsReady (S : List Point) (R : List Look) : Type 0 where
  pub points : AreFor S R
  pub agree : DoAgree S R

-- the move with two drops, and that with one
abbrev pub two_of : Head → (first second : Pair) → Move
two_of (KeepOne e) first second = Swap e first (Some second)
two_of (KeepTwo e f) first second = Trade e f first second
two_of (FlipFirst e) first second = FlipSwap e first (Some second)

abbrev pub one_of : Kind → (pair first : Pair) → Move
one_of Keeping e first = Swap e first None
one_of Flipping e first = FlipSwap e first None

abbrev pub head_of : Kind → Pair → Head
head_of Keeping e = KeepOne e
head_of Flipping e = FlipFirst e

-- two elements of a list, by the first and then the second
abbrev pub twos_of : (Pair → Pair → Move) → List Pair → List Move
twos_of move [] = []
twos_of move (x ∷ xs) = map (move x) xs ++ twos_of move xs

-- two drops of a list, and then one
abbrev pub choices_of : Kind → Pair → List Pair → List Move
choices_of kind e xs = twos_of (two_of (head_of kind e)) xs ++ map (one_of kind e) xs

-- those of a neighbour, and those of several
abbrev pub moves_at : Kind → List Sight → (v q : ℕ) → List Move
moves_at kind R v q = choices_of kind (pair_of v q) (drop_list R v q)

abbrev pub moves_of : Kind → List Sight → ℕ → List ℕ → List Move
moves_of kind R v qs = flat_map (moves_at kind R v) qs

-- two keeps of a list, each with two drops of another
abbrev pub trades_with : Pair → (kept spare : List Pair) → List Move
trades_with e kept [] = []
trades_with e kept (f ∷ spare) = twos_of (two_of (KeepTwo e f)) kept ++ trades_with e kept spare

abbrev pub trades_of : (kept spare : List Pair) → List Move
trades_of kept [] = []
trades_of kept (e ∷ spare) = trades_with e kept spare ++ trades_of kept spare

-- a drop, or a flip, of each neighbour
abbrev pub drops_to : ℕ → List ℕ → List Move
drops_to v qs = map (λ q. DropOne (pair_of v q)) qs

abbrev pub flips_to : ℕ → List ℕ → List Move
flips_to v qs = map (λ q. FlipOne (pair_of v q)) qs
