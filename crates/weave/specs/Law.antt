-- The law of the weave: what is true of every run, whatever its steps.
use Rattle.std.specs.Prelude.{◌≡◌, ◌≢◌, ℕ, true, List, ◌∷◌, ◌++◌, Some}
use Rattle.std.specs.List.{AllByRecursion}
use Rattle.plane.specs.declared.coordinates.Point.{Point}
use Rattle.plane.specs.declared.segment.Pair.{Pair}
use Rattle.partition_defs.specs.Partition.{IsConvexPartition}
use Rattle.star.specs.Stars.{Seen}
use Rattle.star.specs.StarOf.{IsStarOf}
use Rattle.journal_defs.specs.declared.commit.Commit.{Commit}
use Rattle.journal_defs.specs.declared.edit.Edit.{Edit}
use Rattle.journal_defs.specs.Journal.{IsLegalJournal, last, replay}
use Rattle.journal_defs.specs.Weave.{Event, Weave, steps}
use Rattle.journal_defs.specs.Weave.Event.{Take, Append, Back}
use Rattle.edit.specs.Plans.{are_touching}

-- the caller doesn't give the place back
abbrev pub Keeps : ℕ → ℕ → List Event → Type 0
Keeps c v events = AllByRecursion (λ (e : Event). e ≢ Back c v) events

abbrev pub IsAppendOf : ℕ → Event → Type 0
IsAppendOf c (Append d edits) = d ≡ c
IsAppendOf c _ = ⊥

-- the caller appends nothing
abbrev pub AppendsNothing : ℕ → List Event → Type 0
AppendsNothing c events = AllByRecursion (λ (e : Event). ¬ IsAppendOf c e) events

-- the star of v in the state after the one journal is its star after the other
abbrev pub KeepsStar : List Point → List Pair → (J L : List Commit) → ℕ → Type 0
KeepsStar S start J L v =
    (a : Seen) → IsStarOf S (replay start J).all (replay start J).kept v a
    → IsStarOf S (replay start L).all (replay start L).kept v a

-- after these events the journal is legal, and the kept pairs are a convex partition
pub record IsLegalAfter (S : List Point) (start : List Pair) (w : Weave) (events : List Event) : Type 0 where
  pub legal : IsLegalJournal S start (steps w events).journal
  pub partition : IsConvexPartition S (replay start (steps w events).journal).kept

pub record IsLawful (S : List Point) (start : List Pair) (w : Weave) (events : List Event) : Type 0 where
  -- at every moment the history is legal, and the kept pairs are a convex partition
  pub legal : (done rest : List Event) → done ++ rest ≡ events → IsLegalAfter S start w done
  -- two callers never own one place
  pub one : (done rest : List Event) (c d v : ℕ) → done ++ rest ≡ events → (steps w done).owner v ≡ Some c
      → (steps w done).owner v ≡ Some d → c ≡ d
  -- who has taken a place owns it until the return of it, and until then nobody takes it
  pub held : (done since rest : List Event) (c v : ℕ) → done ++ Take c v ∷ since ++ rest ≡ events → Keeps c v since
      → (steps w (done ++ Take c v ∷ since)).owner v ≡ Some c
  pub apart : (done since rest : List Event) (c d v : ℕ) → done ++ Take c v ∷ since ++ Take d v ∷ rest ≡ events → ¬ Keeps c v since
  -- between a caller's take of a vertex and its return no other caller's append touches it
  pub spared : (done since rest : List Event) (c d v : ℕ) (edits : List Edit)
      → done ++ Take c v ∷ since ++ Append d edits ∷ rest ≡ events → Keeps c v since → are_touching edits v ≡ true → d ≡ c
  -- so, while the caller appends nothing, the vertex's last touch and its star stay
  pub keeps_last : (done since rest : List Event) (c v : ℕ) → done ++ Take c v ∷ since ++ rest ≡ events → Keeps c v since
      → AppendsNothing c since → last (steps w (done ++ Take c v ∷ since)).journal v ≡ last (steps w done).journal v
  pub keeps_star : (done since rest : List Event) (c v : ℕ) → done ++ Take c v ∷ since ++ rest ≡ events → Keeps c v since
      → AppendsNothing c since → KeepsStar S start (steps w done).journal (steps w (done ++ Take c v ∷ since)).journal v
