-- A run with edit workers: the start is swept, the workers make their commits, and what they leave is swept again.
-- (This project's own.)
use Rattle.std.specs.Prelude.{◌≡◌, ℕ, ◌*◌, ◌≤◌, List, ◌++◌, length}
use Rattle.std.specs.List.{All}
use Rattle.plane.specs.declared.coordinates.Point.{Point}
use Rattle.plane.specs.declared.segment.Pair.{Pair}
use Rattle.cost_defs.specs.Costs.{Costed}
use Rattle.journal_defs.specs.declared.commit.Commit.{Commit}
use Rattle.journal_defs.specs.Journal.{IsLegalJournal, IsSwept, replay, made, drops}
use Rattle.round_defs.specs.Rounds.{IsSearched}
use Rattle.solve_defs.specs.PlainRun.{IsSweepJournal}
use Rattle.solve_defs.specs.Solved.{IsNoDearer}

-- a commit of one of E edit workers, in which the Keeps cost no more than the Drops
abbrev pub IsWorkers : List Costed → (E : ℕ) → Commit → Type 0
IsWorkers D E c = (1 ≤ c.caller) × (c.caller ≤ E) × IsNoDearer D c.edits

-- the commits of caller 0 that drop, of the pairs kept after J, each that can go at its moment
abbrev pub IsSweepAfter : List Point → (start : List Pair) → (J swept : List Commit) → Type 0
IsSweepAfter S start J swept =
    (dropped : List Pair) × IsSwept S (replay start J) (replay start J).kept dropped × (swept ≡ drops (made 0 J) dropped)

-- The journal is legal: the start's sweep, at most four commits for each round of each worker, and a sweep of what they
-- leave. One worker alone leaves what its search leads to.
pub record IsWorkedJournal (S : List Point) (D : List Costed) (E rounds seed : ℕ) (start : List Pair) (J : List Commit) : Type 0 where
  pub swept : List Commit
  pub sweep : IsSweepJournal S start swept
  pub work : List Commit
  pub workers : All (IsWorkers D E) work
  pub few : length work ≤ 4 * E * rounds
  pub again : List Commit
  pub last : IsSweepAfter S start (swept ++ work) again
  pub journal : J ≡ (swept ++ work) ++ again
  pub legal : IsLegalJournal S start J
  pub alone : E ≡ 1 → IsSearched S D start swept rounds seed (swept ++ work)
