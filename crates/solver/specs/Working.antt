-- For private clauses.
-- What the edit workers and the second sweep leave.
use Rattle.std.specs.Prelude.{◌≡◌, ℕ, ◌*◌, ◌≤◌, List, ◌++◌, length}
use Rattle.std.specs.List.{All}
use Rattle.plane.specs.declared.coordinates.Point.{Point}
use Rattle.plane.specs.declared.segment.Pair.{Pair}
use Rattle.cost_defs.specs.Costs.{Costed}
use Rattle.journal_defs.specs.declared.commit.Commit.{Commit}
use Rattle.journal_defs.specs.Journal.{IsLegalJournal}
use Rattle.round_defs.specs.Rounds.{IsSearched}
use Rattle.run_defs.specs.WorkedRun.{IsWorkers, IsSweepAfter}
use Rattle.replay.specs.Replayed.{Replayed, IsCore}
use Rattle.lower_bounds.specs.declared.bests.Search.{Search}

-- the journal L is J and then the commits of E edit workers
pub record IsWorkAfter (S : List Point) (D : List Costed) (E rounds seed : ℕ) (start : List Pair) (J L : List Commit) : Type 0 where
  pub work : List Commit
  pub is : L ≡ J ++ work
  pub workers : All (IsWorkers D E) work
  pub few : length work ≤ 4 * E * rounds
  pub legal : IsLegalJournal S start L
  pub alone : E ≡ 1 → IsSearched S D start J rounds seed L

-- the core after their work
pub record HasBeenWorked (D : List Costed) (E : ℕ) (search : Search) (old new : Replayed) : Type 0 where
  pub core : IsCore new
  pub points : new.points ≡ old.points
  pub start : new.start ≡ old.start
  pub work : IsWorkAfter old.points D E search.rounds search.seed old.start old.journal new.journal

-- the core after one more sweep
pub record HasBeenSwept (old new : Replayed) : Type 0 where
  pub core : IsCore new
  pub points : new.points ≡ old.points
  pub start : new.start ≡ old.start
  pub again : List Commit
  pub is : new.journal ≡ old.journal ++ again
  pub sweep : IsSweepAfter old.points old.start old.journal again
