-- What a solved instance is: start, journal, solution and certificate. (This project's own.)
use Rattle.std.specs.Prelude.{◌≡◌, ℕ, ◌+◌, ◌≤◌, List, [], ◌∷◌, length}
use Rattle.std.specs.List.{All, sum_by}
use Rattle.plane.specs.declared.coordinates.Point.{Point}
use Rattle.plane.specs.declared.segment.Pair.{Pair}
use Rattle.partition_defs.specs.Ascending.{IsAscending}
use Rattle.partition_defs.specs.Sets.{IsMinimal}
use Rattle.partition_defs.specs.Sweep.{AreSweepPairs}
use Rattle.partition_defs.specs.Triangulation.{IsTriangulation, IsBorderList}
use Rattle.cost_defs.specs.Costs.{Costed, cost, total}
use Rattle.journal_defs.specs.declared.edit.Edit.{Edit}
use Rattle.journal_defs.specs.declared.edit.Edit.TheVariants.{Drop, Keep, Flip}
use Rattle.journal_defs.specs.declared.commit.Commit.{Commit}
use Rattle.journal_defs.specs.Journal.{IsLegalJournal, replay, made}
use Rattle.price_defs.specs.declared.row.Certificate.{Certificate}
use Rattle.price_defs.specs.declared.row.TheConstants.{MOST_DIVISOR}
use Rattle.price_defs.specs.Floor.{IsFloor}
use Rattle.price_defs.specs.Limits.{AreLight}
use Rattle.price_defs.specs.Loads.{IsValid, value}
use Rattle.price_defs.specs.Tight.{IsTight}

-- what an edit adds to the cost of the kept pairs, and what it saves
abbrev pub kept_cost : List Costed → Edit → ℕ
kept_cost D (Drop e) = 0
kept_cost D (Keep e) = cost D e.lo e.hi
kept_cost D (Flip e f) = 0

abbrev pub saved_cost : List Costed → Edit → ℕ
saved_cost D (Drop e) = cost D e.lo e.hi
saved_cost D (Keep e) = 0
saved_cost D (Flip e f) = 0

-- the Keeps cost no more than the Drops
abbrev pub IsNoDearer : List Costed → List Edit → Type 0
IsNoDearer D edits = sum_by (kept_cost D) edits ≤ sum_by (saved_cost D) edits

-- a commit of caller 0, the program's own sweep, has one edit, a Drop
abbrev pub IsSweeps : Commit → Type 0
IsSweeps c = c.caller ≡ 0 → (e : Pair) × (c.edits ≡ Drop e ∷ [])

-- who made the commits, and how many there are
pub record IsManned (E : ℕ) (J : List Commit) : Type 0 where
  pub callers : All (λ c. c.caller ≤ E) J
  pub sweeps : All IsSweeps J
  pub swept : made 0 J ≤ 30000
  pub worked : length J ≤ made 0 J + 64000

-- the lower bound that a certificate shows: its value over the cost of the border pairs
abbrev pub IsBound : List Point → List Costed → Certificate → ℕ → Type 0
IsBound S D C v = (B : List Pair) × IsBorderList S B × (v ≡ value (total D B) C.q C.rows)

-- Solved with E edit workers: the journal leads from the start, a triangulation of sweep pairs, to the solution, from
-- which no pair can go, and no commit makes it dearer; the certificate is valid and tight, and at least the floor.
pub record IsSolved (S : List Point) (D : List Costed) (E : ℕ) (start : List Pair) (J : List Commit) (K : List Pair) (C : Certificate) : Type 0 where
  pub ascending : IsAscending start
  pub triangulation : IsTriangulation S start
  pub sweep : AreSweepPairs S start
  pub journal : IsLegalJournal S start J
  pub manned : IsManned E J
  pub dearer : All (λ c. IsNoDearer D c.edits) J
  pub result : (replay start J).kept ≡ K
  pub minimal : IsMinimal S K
  pub valid : IsValid S D C.q C.rows
  pub tight : IsTight S D C.q C.rows
  pub floor : (h : ℕ) → (f : ℕ) × IsFloor S D h f × (f ≤ value h C.q C.rows)
  pub divisor : C.q ≤ MOST_DIVISOR
  pub light : AreLight C.rows
