-- What the solver makes of an instance. (This project's own.)
use Rattle.std.specs.Prelude.{◌≡◌, ℕ, ◌≤◌, ◌⊎◌, List, length}
use Rattle.plane.specs.declared.coordinates.Point.{Point}
use Rattle.cost_defs.specs.Costs.{Costed}
use Rattle.search_defs.specs.Best.{IsBest}
use Rattle.solve_defs.specs.PlainRun.{IsSweepJournal}
use Rattle.solve_defs.specs.Solved.{IsBound, IsSolved}
use Rattle.run_defs.specs.WorkedRun.{IsWorkedJournal}
use Rattle.triangulate.specs.SweepSet.{IsSweepSet}
use Rattle.lower_bounds.specs.declared.bests.Search.{Search}
use Rattle.solver.specs.declared.solving.Solved.{Solved}

-- The points as they were, all sweep pairs as the start, the best certificate with its bound: a solved instance with E edit
-- workers. Where none of them makes a round the journal is the start's sweep; else it is a run with edit workers. The most
-- segments that a triangulation of so many points has.
pub record IsSolvedBy (S : List Point) (D : List Costed) (E : ℕ) (search : Search) (run : Solved) : Type 0 where
  pub points : run.points ≡ S
  pub start : IsSweepSet S run.start.items
  pub plain : (E ≡ 0) ⊎ (search.rounds ≡ 0) → IsSweepJournal S run.start.items run.journal.items
  pub worked : 1 ≤ E → 1 ≤ search.rounds → IsWorkedJournal S D E search.rounds search.seed run.start.items run.journal.items
  pub best : IsBest S D search.workers search.rounds search.seed run.certificate
  pub bound : IsBound S D run.certificate run.bound
  pub solved : IsSolved S D E run.start.items run.journal.items run.kept.items run.certificate
  pub few : length run.start.items ≤ 15000
  pub fewer : length run.kept.items ≤ length run.start.items
