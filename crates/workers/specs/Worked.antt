-- What workers make of their passes and of a certificate. (This project's own.)
use Rattle.std.specs.Prelude.{◌≡◌, ℕ, suc, ◌+◌, ◌*◌, ◌≤◌, List, [], ◌∷◌, length}
use Rattle.std.specs.List.{sum_by}
use Rattle.plane.specs.declared.coordinates.Point.{Point}
use Rattle.cost_defs.specs.Costs.{Costed}
use Rattle.price_defs.specs.declared.row.Certificate.{Certificate}
use Rattle.price_defs.specs.declared.row.TheConstants.{MOST_DIVISOR}
use Rattle.price_defs.specs.Limits.{AreLight}
use Rattle.price_defs.specs.Loads.{IsValid, lost}
use Rattle.price_defs.specs.Tight.{IsTight}
use Rattle.round_defs.specs.Rounds.{IsSearched}
use Rattle.search_defs.specs.Best.{IsPricedBy}
use Rattle.vertex_claims.specs.Holding.{ClaimsSeen}
use Rattle.seats.specs.declared.cells.Root.{Root}
use Rattle.seats.specs.Seats.{SeatSeen}
use Rattle.board.specs.Passes.{IsPass}
use Rattle.search_worker.specs.Working.{IsFurther, HasAdded, tries}

-- a pass after work: it has seen more, its own commits are at most four more a round, none dearer, and it tried a place at
-- least once a round. On a board with one pass, with room, what it has seen became what the search leads to
pub record HasWorked (b : ClaimsSeen Root) (D : List Costed) (rounds seed : ℕ) (old new : SeatSeen) : Type 0 where
  pub valid : IsPass new
  pub further : IsFurther old new
  pub added : (n : ℕ) × (n ≤ 4 * rounds) × HasAdded D n old new
  pub tried : tries old + rounds ≤ tries new
  pub searched : b.callers ≡ 1 → length old.seen + 4 * rounds ≤ b.root.room
      → IsSearched b.root.points D b.root.start.items old.seen rounds seed new.seen

-- each pass after its work, in the same order
abbrev pub HaveWorked : ClaimsSeen Root → List Costed → (rounds seed : ℕ) → (old new : List SeatSeen) → Type 0
HaveWorked b D rounds seed [] [] = Unit {0}
HaveWorked b D rounds seed [] (q ∷ qs) = ⊥
HaveWorked b D rounds seed (p ∷ ps) [] = ⊥
HaveWorked b D rounds seed (p ∷ ps) (q ∷ qs) = HasWorked b D rounds seed p q × HaveWorked b D rounds seed ps qs

-- a certificate from which bound workers may begin
pub record CanBePriced (S : List Point) (D : List Costed) (C : Certificate) : Type 0 where
  pub valid : IsValid S D C.q C.rows
  pub tight : IsTight S D C.q C.rows
  pub divisor : C.q ≤ MOST_DIVISOR
  pub takers : sum_by lost C.rows ≤ 100000000000

-- what the bound worker b found: by the rule, valid, tight and within the limits
pub record IsFoundFrom (S : List Point) (D : List Costed) (start : Certificate) (rounds seed b : ℕ) (C : Certificate) : Type 0 where
  pub priced : IsPricedBy S D start rounds seed (100 + b) C
  pub valid : IsValid S D C.q C.rows
  pub tight : IsTight S D C.q C.rows
  pub divisor : C.q ≤ MOST_DIVISOR
  pub light : AreLight C.rows

-- what the bound workers from b on found, in order
abbrev pub ArePriced : List Point → List Costed → (start : Certificate) → (rounds seed b : ℕ) → List Certificate → Type 0
ArePriced S D start rounds seed b [] = Unit {0}
ArePriced S D start rounds seed b (C ∷ Cs) = IsFoundFrom S D start rounds seed b C × ArePriced S D start rounds seed (suc b) Cs
