-- What all callers share, and how the history that one of them has seen grows.
use Rattle.std.specs.Prelude.{◌≡◌, ◌≢◌, ℕ, ◌≤◌, List, [], ◌++◌}
use Rattle.std.specs.List.{AllByRecursion}
use Rattle.plane.specs.declared.coordinates.Point.{Point}
use Rattle.plane.specs.declared.segment.Pair.{Pair}
use Rattle.index_sets.specs.Entries.{LacksCaller, SparesPlace}
use Rattle.journal_defs.specs.declared.commit.Commit.{Commit}
use Rattle.journal_defs.specs.Journal.{IsLegalJournal, commit_touches}

-- the points, the segments at the start, the number of callers, and for how many commits the journal has room
pub record Ground : Type 0 where
  pub points : List Point
  pub start : List Pair
  pub callers : ℕ
  pub room : ℕ

-- whose commit it is
abbrev pub caller_of : Commit → ℕ
caller_of c = c.caller

-- L is a longer J, and legal: what was added touches no place that is held, and is not the caller's. Where there is one
-- caller nothing was added
pub record Grown (g : Ground) (caller : ℕ) (held : List ℕ) (J L : List Commit) : Type 0 where
  pub more : List Commit
  pub is : L ≡ J ++ more
  pub spares : AllByRecursion (SparesPlace commit_touches more) held
  pub lacks : LacksCaller caller_of more caller
  pub alone : g.callers ≡ 1 → more ≡ []
  pub legal : IsLegalJournal g.points g.start L

-- the number of another caller
pub record IsOther (g : Ground) (caller number : ℕ) : Type 0 where
  pub least : 1 ≤ number
  pub most : number ≤ g.callers
  pub other : number ≢ caller
