-- All pairs of a triangulation kept: the state is sound, and so is each that a legal journal leads to.
use Rattle.std.proofs.Common.{List}
use Rattle.plane.specs.declared.coordinates.Point.{Point}
use Rattle.plane.specs.declared.segment.Pair.{Pair}
use Rattle.plane.specs.Accepted.{AreAccepted}
use Rattle.partition_defs.specs.Triangulation.{IsTriangulation}
use Rattle.partition_defs.specs.Ascending.{IsAscending}
use Rattle.partition_defs.proofs.laws.Needs.{triangulation_partition}
use Rattle.journal_defs.specs.declared.commit.Commit.{Commit}
use Rattle.journal_defs.specs.Edits.{IsSound}
use Rattle.journal_defs.specs.Journal.{opening, replay, AreLegalFrom}
use Rattle.journal_defs.proofs.laws.Edits.{sound_replay}

pub sound_opening : (S : List Point) (start : List Pair) → AreAccepted S → IsAscending start → IsTriangulation S start → IsSound S (opening start)
sound_opening S start accepted rises tri = record {
  all_ascending = rises;
  kept_ascending = rises;
  triangulation = tri;
  partition = triangulation_partition S start accepted tri;
  among = λ e h. h;
}

-- so is the state after every legal journal
pub sound_legal : (S : List Point) (start : List Pair) (J : List Commit) → AreAccepted S → IsAscending start → IsTriangulation S start → AreLegalFrom S (opening start) J → IsSound S (replay start J)
sound_legal S start J accepted rises tri legal = sound_replay S (opening start) J (sound_opening S start accepted rises tri) legal
