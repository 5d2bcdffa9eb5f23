-- Journals of commits: replay, legality, the last commit that touches a vertex.
use Rattle.std.specs.Prelude.{◌≡◌, ℕ, ◌+◌, ◌<◌, ◌≤◌, ◌⊎◌, take, slice_index_or, Bool, false, if◌then◌else◌, nat_eq, List, [], ◌∷◌, ◌++◌, length, count_by}
use Rattle.std.specs.List.{All, list_any}
use Rattle.plane.specs.declared.coordinates.Point.{Point}
use Rattle.plane.specs.declared.segment.Pair.{Pair}
use Rattle.journal_defs.specs.declared.edit.Edit.{Edit}
use Rattle.journal_defs.specs.declared.edit.Edit.TheVariants.{Drop}
use Rattle.journal_defs.specs.declared.commit.Commit.{Commit}
use Rattle.journal_defs.specs.Edits.{State, after, IsLegal, IsLegalDrop, touches}

abbrev pub after_all : List Edit → State → State
after_all [] s = s
after_all (e ∷ es) s = after_all es (after e s)

-- each edit is legal in its turn
abbrev pub AreLegal : List Point → State → List Edit → Type 0
AreLegal S s [] = Unit {0}
AreLegal S s (e ∷ es) = IsLegal S s e × AreLegal S (after e s) es

-- the edit at k is the first that isn't legal in its turn
pub record IsFirstIllegal (S : List Point) (s : State) (edits : List Edit) (k : ℕ) : Type 0 where
  pub within : k < length edits
  pub before : AreLegal S s (take k edits)
  pub edit : Edit
  pub at : slice_index_or edits k edit ≡ edit
  pub illegal : ¬ IsLegal S (after_all (take k edits) s) edit

-- all pairs are kept at first
abbrev pub opening : List Pair → State
opening start = record { all = start; kept = start }

abbrev pub replay_from : State → List Commit → State
replay_from s [] = s
replay_from s (c ∷ J) = replay_from (after_all c.edits s) J

abbrev pub replay : List Pair → List Commit → State
replay start J = replay_from (opening start) J

abbrev pub AreLegalFrom : List Point → State → List Commit → Type 0
AreLegalFrom S s [] = Unit {0}
AreLegalFrom S s (c ∷ J) = AreLegal S s c.edits × AreLegalFrom S (after_all c.edits s) J

-- how many commits the caller has made
abbrev pub made : ℕ → List Commit → ℕ
made caller J = count_by (λ (c : Commit). nat_eq c.caller caller) J

-- after the commits before, each caller's next ones carry its next numbers
abbrev pub HaveSeqsAfter : (before J : List Commit) → Type 0
HaveSeqsAfter before [] = Unit {0}
HaveSeqsAfter before (c ∷ J) = (c.seq ≡ made c.caller before + 1) × HaveSeqsAfter (before ++ c ∷ []) J

-- a commit has 1 to 8 edits
abbrev pub HasSize : Commit → Type 0
HasSize c = (1 ≤ length c.edits) × (length c.edits ≤ 8)

-- a legal journal from a start
pub record IsLegalJournal (S : List Point) (start : List Pair) (J : List Commit) : Type 0 where
  pub sizes : All HasSize J
  pub edits : AreLegalFrom S (opening start) J
  pub seqs : HaveSeqsAfter [] J

abbrev pub commit_touches : Commit → ℕ → Bool
commit_touches c v = list_any (λ e. touches e v) c.edits

-- the last touch of v, with the number of commits before and the last touch among those
abbrev pub last_from : (n best : ℕ) → List Commit → ℕ → ℕ
last_from n best [] v = best
last_from n best (c ∷ J) v = last_from (n + 1) (if commit_touches c v then n + 1 else best) J v

-- the number of the last commit that touches v, or 0 where none does
abbrev pub last : List Commit → ℕ → ℕ
last J v = last_from 0 0 J v

-- none of the commits touches v
abbrev pub Spares : List Commit → ℕ → Type 0
Spares [] v = Unit {0}
Spares (c ∷ J) v = (commit_touches c v ≡ false) × Spares J v

-- The sweep through pairs in their order: each whose Drop is legal at its moment is dropped.
abbrev pub IsSwept : List Point → State → (pairs dropped : List Pair) → Type 0
IsSwept S s [] dropped = dropped ≡ []
IsSwept S s (e ∷ pairs) dropped =
    (IsLegalDrop S s e × ((rest : List Pair) × (dropped ≡ e ∷ rest) × IsSwept S (after (Drop e) s) pairs rest)) ⊎ (¬ IsLegalDrop S s e × IsSwept S s pairs dropped)

-- the sweep as edits
abbrev pub as_drops : List Pair → List Edit
as_drops [] = []
as_drops (e ∷ es) = Drop e ∷ as_drops es

-- one commit of caller 0 for each pair that is dropped, after so many of its commits
abbrev pub drops : ℕ → List Pair → List Commit
drops done [] = []
drops done (e ∷ dropped) = record { caller = 0; seq = done + 1; edits = Drop e ∷ [] } ∷ drops (done + 1) dropped
