-- For private clauses.
-- Jobs before and after they are done.
use Rattle.std.specs.Prelude.{◌≡◌, ℕ, ◌≤◌, true, false, List, [], ◌∷◌, Option, Some, None}
use Rattle.plane.specs.declared.coordinates.Point.{Point}
use Rattle.cost_defs.specs.Costs.{Costed}
use Rattle.price_defs.specs.declared.row.Certificate.{Certificate}
use Rattle.vertex_claims.specs.Holding.{ClaimsSeen}
use Rattle.seats.specs.declared.cells.Root.{Root}
use Rattle.seats.specs.Seats.{SeatSeen}
use Rattle.workers.specs.declared.jobs.Job.{Job}
use Rattle.workers.specs.declared.jobs.Job.TheVariants.{Edit, Bound}
use Rattle.workers.specs.Worked.{HasWorked, IsFoundFrom}

-- the jobs of a pass and of a bound worker, at first
abbrev pub edit_job : SeatSeen → Job
edit_job p = Edit p false

abbrev pub bound_job : ℕ → Job
bound_job w = Bound w None

-- a job that can be done on the board
abbrev pub IsReady : ClaimsSeen Root → Job → Type 0
IsReady b (Edit p e) = p.of ≡ b
IsReady b (Bound w o) = w ≤ 16

-- what a bound worker found, if it found memory
abbrev pub IsFoundOrNone : List Point → List Costed → (start : Certificate) → (rounds seed w : ℕ) → Option Certificate → Type 0
IsFoundOrNone S D start rounds seed w None = Unit {0}
IsFoundOrNone S D start rounds seed w (Some C) = IsFoundFrom S D start rounds seed w C

-- a job after it was done
abbrev pub IsDone : ClaimsSeen Root → List Costed → (start : Certificate) → (rounds seed : ℕ) → (old new : Job) → Type 0
IsDone b D start rounds seed (Edit p e) (Edit q f) = f ≡ true → HasWorked b D rounds seed p q
IsDone b D start rounds seed (Edit p e) (Bound w o) = ⊥
IsDone b D start rounds seed (Bound w o) (Edit q f) = ⊥
IsDone b D start rounds seed (Bound w o) (Bound v u) = (v ≡ w) × IsFoundOrNone b.root.points D start rounds seed w u

-- a job that came to its end
abbrev pub HasEnded : Job → Type 0
HasEnded (Edit p e) = e ≡ true
HasEnded (Bound w None) = ⊥
HasEnded (Bound w (Some C)) = Unit {0}

-- the passes and the certificates in jobs, in order
abbrev pub passes_in : List Job → List SeatSeen
passes_in [] = []
passes_in (Edit p e ∷ js) = p ∷ passes_in js
passes_in (Bound w o ∷ js) = passes_in js

abbrev pub found_in : List Job → List Certificate
found_in [] = []
found_in (Edit p e ∷ js) = found_in js
found_in (Bound w None ∷ js) = found_in js
found_in (Bound w (Some C) ∷ js) = C ∷ found_in js
