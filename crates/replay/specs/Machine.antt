-- For private clauses.
-- What a core keeps.
use Rattle.std.specs.Prelude.{◌≡◌, ℕ, ◌+◌, ◌≤◌, List, length, slice_index}
use Rattle.plane.specs.declared.coordinates.Point.{Point}
use Rattle.plane.specs.declared.segment.Pair.{Pair}
use Rattle.partition_defs.specs.Ascending.{IsAscending}
use Rattle.partition_defs.specs.Triangulation.{IsTriangulation}
use Rattle.subdivision.specs.Layout.{Layout, IsSubdivision}
use Rattle.journal_defs.specs.declared.commit.Commit.{Commit}
use Rattle.journal_defs.specs.Edits.{State}
use Rattle.journal_defs.specs.Journal.{replay, IsLegalJournal, made}
use Rattle.replay.specs.declared.counts.Counts.{Counts}
use Rattle.replay.specs.declared.machine.TheConstants.{MOST_CALLER, MOST_COMMITS}

-- the segments of a subdivision as a state
abbrev pub layers : Layout → State
layers a = record { all = a.all; kept = a.kept }

-- the counts are those of the commits
abbrev pub AreCounts : List Commit → Counts → Type 0
AreCounts J counts =
    (length counts.counts ≡ MOST_CALLER + 1) × ((c : ℕ) → c ≤ MOST_CALLER → slice_index counts.counts c ≡ made c J)

-- the parts of a core belong together: the subdivision is the replay of the journal
pub record IsMachine (S : List Point) (start : List Pair) (J : List Commit) (all : Layout) (counts : Counts) : Type 0 where
  pub ascending : IsAscending start
  pub triangulation : IsTriangulation S start
  pub legal : IsLegalJournal S start J
  pub few : length J ≤ MOST_COMMITS
  pub of : all.points ≡ S
  pub subdivision : IsSubdivision all
  pub state : layers all ≡ replay start J
  pub counted : AreCounts J counts
