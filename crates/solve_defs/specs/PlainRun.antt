-- The run without edit workers: the start, and its sweep alone. (This project's own.)
use Rattle.std.specs.Prelude.{◌≡◌, List}
use Rattle.plane.specs.declared.coordinates.Point.{Point}
use Rattle.plane.specs.declared.segment.Pair.{Pair}
use Rattle.journal_defs.specs.declared.commit.Commit.{Commit}
use Rattle.journal_defs.specs.Journal.{opening, IsSwept, drops}

-- the journal goes through the start once, and drops each pair that can go at its moment
abbrev pub IsSweepJournal : List Point → (start : List Pair) → (J : List Commit) → Type 0
IsSweepJournal S start J = (dropped : List Pair) × IsSwept S (opening start) start dropped × (J ≡ drops 0 dropped)
