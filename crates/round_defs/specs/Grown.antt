-- What the rounds of an edit worker add to a journal.
use Rattle.std.specs.Prelude.{◌≡◌, ℕ, ◌≤◌, List, ◌++◌, length}
use Rattle.std.specs.List.{AllByRecursion}
use Rattle.plane.specs.declared.coordinates.Point.{Point}
use Rattle.plane.specs.declared.segment.Pair.{Pair}
use Rattle.cost_defs.specs.Costs.{Costed}
use Rattle.journal_defs.specs.declared.commit.Commit.{Commit}
use Rattle.journal_defs.specs.Journal.{IsLegalJournal}
use Rattle.plan_defs.specs.Plans.{IsNoDearer}

-- a commit of caller 1 in which the Keeps don't cost more than the Drops
abbrev pub IsOwn : List Costed → Commit → Type 0
IsOwn D c = (c.caller ≡ 1) × IsNoDearer D c.edits

-- the second journal is legal, and is the first and then at most n such commits
pub record IsGrown (S : List Point) (D : List Costed) (start : List Pair) (n : ℕ) (J J' : List Commit) : Type 0 where
  pub more : List Commit
  pub is : J' ≡ J ++ more
  pub own : AllByRecursion (IsOwn D) more
  pub few : length more ≤ n
  pub legal : IsLegalJournal S start J'
