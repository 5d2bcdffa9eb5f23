-- What the weave answers to each step of a list, and which events its answers stand for.
use Rattle.std.specs.Prelude.{◌≡◌, ◌≢◌, ℕ, ◌+◌, ◌<◌, ◌≤◌, ◌⊎◌, Bool, true, List, [], ◌∷◌, ◌++◌, length, Option, Some, None}
use Rattle.plane.specs.declared.coordinates.Point.{Point}
use Rattle.plane.specs.declared.segment.Pair.{Pair}
use Rattle.journal_defs.specs.Journal.{replay}
use Rattle.journal_defs.specs.Weave.{Event, Weave, MayAppend, steps}
use Rattle.journal_defs.specs.Weave.Event.{Take as Taken, Miss as Missed, Append as Appended, Back as GivenBack}
use Rattle.edit.specs.Plans.{are_touching}
use Rattle.replay.specs.declared.machine.TheConstants.{MOST_CALLER}
use Rattle.replay.specs.Applied.{AreWithin, IsFirstFault}
use Rattle.weave.specs.declared.step.Step.{Step}
use Rattle.weave.specs.declared.step.Step.TheVariants.{Take, Append, Back}
use Rattle.weave.specs.declared.step.StepAnswer.{StepAnswer}
use Rattle.weave.specs.declared.step.StepAnswer.TheVariants.{Won, Held, Commit, NotOwned, Illegal, Returned}

-- a step of a caller that may append, at the place of one of n vertices or of the journal, or with edits of pairs of n points
abbrev pub IsStepOf : ℕ → Step → Type 0
IsStepOf n (Take c v) = (c ≤ MOST_CALLER) × (v ≤ n)
IsStepOf n (Append c edits) = (c ≤ MOST_CALLER) × AreWithin n edits
IsStepOf n (Back c v) = (c ≤ MOST_CALLER) × (v ≤ n)

-- the caller owns every place that passes the test
abbrev pub OwnsAll : (owner : ℕ → Option ℕ) → ℕ → (ℕ → Bool) → Type 0
OwnsAll owner c at = (v : ℕ) → at v ≡ true → owner v ≡ Some c

-- v is the least place that passes the test and isn't the caller's
pub record IsFirstLacking (owner : ℕ → Option ℕ) (c : ℕ) (at : ℕ → Bool) (v : ℕ) : Type 0 where
  pub there : at v ≡ true
  pub lacks : owner v ≢ Some c
  pub before : (u : ℕ) → u < v → at u ≡ true → owner u ≡ Some c

-- The place is why the caller may not append these edits: the least touched vertex that isn't the caller's, or else the
-- journal's place n.
abbrev pub IsLacking : ℕ → Weave → ℕ → (ℕ → Bool) → ℕ → Type 0
IsLacking n w c at v = IsFirstLacking w.owner c at v ⊎ (OwnsAll w.owner c at × (w.owner n ≢ Some c) × (v ≡ n))

-- the weave answers a step so
abbrev pub IsAnswered : List Point → List Pair → ℕ → Weave → Step → StepAnswer → Type 0
IsAnswered S start n w (Take c v) Won = w.owner v ≡ None
IsAnswered S start n w (Take c v) (Held d) = w.owner v ≡ Some d
IsAnswered S start n w (Append c edits) (NotOwned v) = IsLacking n w c (are_touching edits) v
IsAnswered S start n w (Append c edits) (Illegal at why) =
    OwnsAll w.owner c (are_touching edits) × (w.owner n ≡ Some c) × IsFirstFault S (replay start w.journal) edits at why
IsAnswered S start n w (Append c edits) (Commit number) = MayAppend S start n w c edits × (number ≡ length w.journal + 1)
IsAnswered S start n w (Back c v) Returned = w.owner v ≡ Some c
IsAnswered S start n w (Back c v) (NotOwned u) = (w.owner v ≢ Some c) × (u ≡ v)
IsAnswered S start n w _ _ = ⊥

-- The event that an answered step stands for. Where an append or a return is refused nothing happens.
abbrev pub event_of : Step → StepAnswer → List Event
event_of (Take c v) Won = Taken c v ∷ []
event_of (Take c v) (Held d) = Missed c v ∷ []
event_of (Append c edits) (Commit number) = Appended c edits ∷ []
event_of (Back c v) Returned = GivenBack c v ∷ []
event_of _ _ = []

-- those of several steps
abbrev pub events_of : List Step → List StepAnswer → List Event
events_of (s ∷ list) (a ∷ answers) = event_of s a ++ events_of list answers
events_of _ _ = []

-- each step is answered as the weave answers it in its turn
abbrev pub AreAnswered : List Point → List Pair → ℕ → Weave → List Step → List StepAnswer → Type 0
AreAnswered S start n w [] [] = Unit {0}
AreAnswered S start n w (s ∷ list) (a ∷ answers) =
    IsAnswered S start n w s a × AreAnswered S start n (steps w (event_of s a)) list answers
AreAnswered S start n w _ _ = ⊥
