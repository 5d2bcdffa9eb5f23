-- A list of steps on a core.
use Rattle.std.specs.Prelude.{◌≡◌, ℕ, take, List, [], ◌∷◌, ◌++◌, length, None}
use Rattle.journal_defs.specs.declared.commit.Commit.{Commit}
use Rattle.journal_defs.specs.Weave.{Event, Weave, IsRun, next_commit, steps}
use Rattle.journal_defs.specs.Weave.Event.{Take, Miss, Append, Back}
use Rattle.replay.specs.Replayed.{Replayed, GrowsBy}
use Rattle.weave.specs.declared.step.Step.{Step}
use Rattle.weave.specs.declared.step.StepAnswer.{StepAnswer}
use Rattle.weave.specs.Answers.{AreAnswered, events_of}
use Rattle.weave.specs.Law.{IsLawful}

-- the weave with this journal whose places are all free
abbrev pub all_free : List Commit → Weave
all_free J = record { journal = J; owner = λ v. None }

-- the commits of the appends among some events: each its caller's next one
abbrev pub commits_of : List Commit → List Event → List Commit
commits_of J [] = []
commits_of J (Append c edits ∷ events) = next_commit J c edits ∷ commits_of (J ++ next_commit J c edits ∷ []) events
commits_of J (Take c v ∷ events) = commits_of J events
commits_of J (Miss c v ∷ events) = commits_of J events
commits_of J (Back c v ∷ events) = commits_of J events

-- The steps are answered so, from all places free: their events are a run, and the core has come to the run's journal.
pub record HasWoven (old new : Replayed) (list : List Step) (answers : List StepAnswer) : Type 0 where
  pub answered : AreAnswered old.points old.start (length old.points) (all_free old.journal) list answers
  pub run : IsRun old.points old.start (length old.points) (all_free old.journal) (events_of list answers)
  pub grows : GrowsBy old new (commits_of old.journal (events_of list answers))
  pub journal : new.journal ≡ (steps (all_free old.journal) (events_of list answers)).journal

-- the law of the weave holds of what the answers stand for
abbrev pub HasKeptLaw : Replayed → List Step → List StepAnswer → Type 0
HasKeptLaw old list answers = IsLawful old.points old.start (all_free old.journal) (events_of list answers)

-- the first steps were made, and answered so, and no others
abbrev pub IsWovenInPart : (old new : Replayed) → List Step → Type 0
IsWovenInPart old new list =
    (k : ℕ) × (answers : List StepAnswer) × HasWoven old new (take k list) answers × HasKeptLaw old (take k list) answers
