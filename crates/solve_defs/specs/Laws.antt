-- The statements of the laws of solved instances.
use Rattle.std.specs.Prelude.{◌≡◌, ℕ, ◌≤◌, List, ◌++◌, length}
use Rattle.plane.specs.declared.coordinates.Point.{Point}
use Rattle.plane.specs.declared.segment.Pair.{Pair}
use Rattle.partition_defs.specs.Ascending.{IsAscending}
use Rattle.partition_defs.specs.Partition.{IsConvexPartition}
use Rattle.partition_defs.specs.Sweep.{AreSweepPairs}
use Rattle.partition_defs.specs.Triangulation.{AreDistinct, IsTriangulation}
use Rattle.cost_defs.specs.Costs.{Costed, total}
use Rattle.journal_defs.specs.declared.commit.Commit.{Commit}
use Rattle.journal_defs.specs.Journal.{IsLegalJournal, replay}
use Rattle.price_defs.specs.declared.row.Certificate.{Certificate}
use Rattle.price_defs.specs.declared.row.TheConstants.{MOST_DIVISOR}
use Rattle.price_defs.specs.Limits.{AreLight}
use Rattle.search_defs.specs.Best.{IsBest}
use Rattle.solve_defs.specs.Solved.{IsBound, IsSolved}
use Rattle.solve_defs.specs.PlainRun.{IsSweepJournal}

-- Each beginning of the journal is a legal one, and leads to a convex partition.
abbrev pub HistoryIsConvex : List Point → Type 0
HistoryIsConvex S =
    (D : List Costed) (E : ℕ) (start : List Pair) (J A L : List Commit) (K : List Pair) (C : Certificate)
    → IsSolved S D E start J K C → J ≡ A ++ L → IsLegalJournal S start A × IsConvexPartition S (replay start A).kept

-- No convex partition costs less than the bound.
abbrev pub NoneIsBelow : List Point → Type 0
NoneIsBelow S =
    (D : List Costed) (E : ℕ) (start : List Pair) (J : List Commit) (K : List Pair) (C : Certificate) (v : ℕ) (L : List Pair)
    → IsSolved S D E start J K C → IsBound S D C v → IsConvexPartition S L → AreDistinct L → v ≤ total D L

-- The start, its sweep and the best certificate are a solved instance.
abbrev pub PlainRunIsSolved : List Point → Type 0
PlainRunIsSolved S =
    (D : List Costed) (E workers rounds seed : ℕ) (start : List Pair) (J : List Commit) (C : Certificate)
    → IsAscending start → IsTriangulation S start → AreSweepPairs S start → length start ≤ 30000
    → IsSweepJournal S start J → IsBest S D workers rounds seed C → C.q ≤ MOST_DIVISOR → AreLight C.rows
    → IsSolved S D E start J (replay start J).kept C

-- The sweep has one journal, and there is one best certificate.
abbrev pub PlainRunIsOne : List Point → Type 0
PlainRunIsOne S =
    ((start : List Pair) (J L : List Commit) → IsSweepJournal S start J → IsSweepJournal S start L → J ≡ L)
    × ((D : List Costed) (workers rounds seed : ℕ) (C O : Certificate)
    → IsBest S D workers rounds seed C → IsBest S D workers rounds seed O → C ≡ O)
