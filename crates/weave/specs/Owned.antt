-- For private clauses.
-- The owners of all places as a list, and one step on a core.
use Rattle.std.specs.Prelude.{◌≡◌, ◌≢◌, ℕ, ◌+◌, ◌≤◌, Bool, List, length, take, slice_index_or, slice_set, Option, Some, None}
use Rattle.journal_defs.specs.Weave.{Weave, steps}
use Rattle.replay.specs.Replayed.{Replayed}
use Rattle.weave.specs.declared.step.Step.{Step}
use Rattle.weave.specs.declared.step.StepAnswer.{StepAnswer}
use Rattle.weave.specs.declared.step.StepAnswer.TheVariants.{Won, Held, NotOwned, Returned}
use Rattle.weave.specs.Answers.{OwnsAll, IsFirstLacking, IsAnswered, AreAnswered, event_of, events_of}
use Rattle.weave.specs.Woven.{all_free}

-- the owner of a place
abbrev pub owner_in : List (Option ℕ) → ℕ → Option ℕ
owner_in owners v = slice_index_or owners v None

-- a core with the owners of all places as a weave
abbrev pub weave_of : Replayed → List (Option ℕ) → Weave
weave_of c owners = record { journal = c.journal; owner = owner_in owners }

-- the least place that passes the test and isn't the caller's, or none
abbrev pub IsLeastLacking : (owner : ℕ → Option ℕ) → ℕ → (ℕ → Bool) → Option ℕ → Type 0
IsLeastLacking owner c at None = OwnsAll owner c at
IsLeastLacking owner c at (Some v) = IsFirstLacking owner c at v

-- a try to take a place is answered so
abbrev pub IsTake : (old new : List (Option ℕ)) → (c v : ℕ) → StepAnswer → Type 0
IsTake old new c v Won = (owner_in old v ≡ None) × (new ≡ slice_set old v (Some c))
IsTake old new c v (Held d) = (owner_in old v ≡ Some d) × (new ≡ old)
IsTake old new c v _ = ⊥

-- a return of a place is answered so
abbrev pub IsReturn : (old new : List (Option ℕ)) → (c v : ℕ) → StepAnswer → Type 0
IsReturn old new c v Returned = (owner_in old v ≡ Some c) × (new ≡ slice_set old v None)
IsReturn old new c v (NotOwned u) = (owner_in old v ≢ Some c) × (u ≡ v) × (new ≡ old)
IsReturn old new c v _ = ⊥

-- the step was answered so, and core and owners have come to the weave after it
pub record HasStepped (old new : Replayed) (owners owners_new : List (Option ℕ)) (s : Step) (a : StepAnswer) : Type 0 where
  pub answered : IsAnswered old.points old.start (length old.points) (weave_of old owners) s a
  pub after : weave_of new owners_new ≡ steps (weave_of old owners) (event_of s a)
  pub points : new.points ≡ old.points
  pub start : new.start ≡ old.start
  pub count : length owners_new ≡ length owners
  pub few : length new.journal ≤ length old.journal + 1

-- the first k steps were answered so, and core and owners have come to the weave after them
pub record IsWeaving (old now : Replayed) (owners : List (Option ℕ)) (list : List Step) (answers : List StepAnswer) (k : ℕ) : Type 0 where
  pub answered : AreAnswered old.points old.start (length old.points) (all_free old.journal) (take k list) answers
  pub weave : weave_of now owners ≡ steps (all_free old.journal) (events_of (take k list) answers)
  pub points : now.points ≡ old.points
  pub start : now.start ≡ old.start
  pub count : length owners ≡ length now.points + 1
  pub few : length now.journal ≤ length old.journal + k
  pub answers_count : length answers ≡ k
