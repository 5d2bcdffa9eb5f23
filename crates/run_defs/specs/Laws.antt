-- The statements of the laws of runs with edit workers.
use Rattle.std.specs.Prelude.{◌≡◌, ℕ, ◌≤◌, List, length}
use Rattle.plane.specs.declared.coordinates.Point.{Point}
use Rattle.plane.specs.declared.segment.Pair.{Pair}
use Rattle.partition_defs.specs.Ascending.{IsAscending}
use Rattle.partition_defs.specs.Sweep.{AreSweepPairs}
use Rattle.partition_defs.specs.Triangulation.{IsTriangulation}
use Rattle.cost_defs.specs.Costs.{Costed}
use Rattle.journal_defs.specs.declared.commit.Commit.{Commit}
use Rattle.journal_defs.specs.Journal.{replay}
use Rattle.price_defs.specs.declared.row.Certificate.{Certificate}
use Rattle.price_defs.specs.declared.row.TheConstants.{MOST_DIVISOR}
use Rattle.price_defs.specs.Limits.{AreLight}
use Rattle.search_defs.specs.Best.{IsBest}
use Rattle.solve_defs.specs.Solved.{IsSolved}
use Rattle.run_defs.specs.WorkedRun.{IsWorkedJournal}

-- The start, what the workers and the sweeps make of it, and the best certificate are a solved instance.
abbrev pub WorkedRunIsSolved : List Point → Type 0
WorkedRunIsSolved S =
    (D : List Costed) (E workers rounds seed : ℕ) (start : List Pair) (J : List Commit) (C : Certificate)
    → IsAscending start → IsTriangulation S start → AreSweepPairs S start → length start ≤ 15000 → E ≤ 16 → rounds ≤ 1000
    → IsWorkedJournal S D E rounds seed start J → IsBest S D workers rounds seed C → C.q ≤ MOST_DIVISOR → AreLight C.rows
    → IsSolved S D E start J (replay start J).kept C

-- One worker alone has one journal.
abbrev pub LoneRunIsOne : List Point → Type 0
LoneRunIsOne S =
    (D : List Costed) (rounds seed : ℕ) (start : List Pair) (J L : List Commit)
    → IsAscending start → IsTriangulation S start
    → IsWorkedJournal S D 1 rounds seed start J → IsWorkedJournal S D 1 rounds seed start L → J ≡ L
