-- One step more on a core.
use Rattle.std.proofs.Common.{◌≡◌, ℕ, ◌+◌, ◌<◌, ◌≤◌, List, [], ◌∷◌, ◌++◌, length, take, drop, slice_index_or, replicate, Option, None, arith, sym, ◌∙◌, ap, subst, refl, append_assoc, append-nil}
use Rattle.std.proofs.Math.Path.{fun_ext}
use Rattle.std.proofs.Math.Seq.{take-append_seam}
use Rattle.std.proofs.lemmas.List.{take_more, take_all, length-append, length-replicate}
use Rattle.plane.specs.declared.coordinates.Point.{Point}
use Rattle.plane.specs.declared.segment.Pair.{Pair}
use Rattle.plane.specs.Accepted.{AreAccepted}
use Rattle.journal_defs.specs.Weave.{Event, Weave, IsRun, step, steps}
use Rattle.replay.specs.Replayed.{Replayed, IsCore, IsAsBefore}
use Rattle.weave.specs.declared.step.Step.{Step}
use Rattle.weave.specs.declared.step.Step.TheVariants.{Take, Append, Back}
use Rattle.weave.specs.declared.step.StepAnswer.{StepAnswer}
use Rattle.weave.specs.declared.step.StepAnswer.TheVariants as said
use Rattle.weave.specs.Answers.{IsAnswered, AreAnswered, event_of, events_of}
use Rattle.weave.specs.Woven.{all_free, HasWoven, HasKeptLaw, IsWovenInPart}
use Rattle.weave.specs.Owned.{owner_in, weave_of, HasStepped, IsWeaving}
use Rattle.weave.proofs.Owning.{owner_free}
use Rattle.weave.proofs.Runs.{steps_append, steps_journal, lawful_run}

-- the events of answered steps are a run
run_join : (S : List Point) (start : List Pair) (n : ℕ) (w : Weave) (es fs : List Event) → IsRun S start n w es → IsRun S start n (steps w es) fs → IsRun S start n w (es ++ fs)
run_join S start n w [] fs run rest = rest
run_join S start n w (e ∷ es) fs run rest = (run.0, run_join S start n (step w e) es fs run.1 rest)

answered_event : (S : List Point) (start : List Pair) (n : ℕ) (w : Weave) (s : Step) (a : StepAnswer) → IsAnswered S start n w s a → IsRun S start n w (event_of s a)
answered_event S start n w (Take c v) said.Won h = (h, tt)
answered_event S start n w (Take c v) (said.Held d) h = ((d, h), tt)
answered_event S start n w (Append c edits) (said.Commit number) h = (h.0, tt)
answered_event S start n w (Append c edits) (said.NotOwned v) h = tt
answered_event S start n w (Append c edits) (said.Illegal at why) h = tt
answered_event S start n w (Back c v) said.Returned h = (h, tt)
answered_event S start n w (Back c v) (said.NotOwned u) h = tt
answered_event S start n w _ _ h = absurd h

answered_run : (S : List Point) (start : List Pair) (n : ℕ) (w : Weave) (list : List Step) (answers : List StepAnswer) → AreAnswered S start n w list answers → IsRun S start n w (events_of list answers)
answered_run S start n w [] [] h = tt
answered_run S start n w [] (a ∷ answers) h = absurd h
answered_run S start n w (s ∷ list) [] h = absurd h
answered_run S start n w (s ∷ list) (a ∷ answers) h =
    run_join S start n w (event_of s a) (events_of list answers) (answered_event S start n w s a h.0) (answered_run S start n (steps w (event_of s a)) list answers h.1)

-- a slice of all places that was lent and came back
pub given_back : (old new : List (Option ℕ)) (n : ℕ) → length new ≡ length old → n ≡ length old → take n (new ++ drop (length new) old) ≡ new
given_back old new n same is =
    ap (λ (m : ℕ). take m (new ++ drop (length new) old)) (is ∙ sym same) ∙ take-append_seam new (drop (length new) old)

-- one more step that is answered
events_more : (S : List Point) (start : List Pair) (n : ℕ) (w : Weave) (list : List Step) (answers : List StepAnswer) (s : Step) (a : StepAnswer) → AreAnswered S start n w list answers
    → events_of (list ++ s ∷ []) (answers ++ a ∷ []) ≡ events_of list answers ++ event_of s a
events_more S start n w [] [] s a h = append-nil (event_of s a)
events_more S start n w [] (b ∷ answers) s a h = absurd h
events_more S start n w (t ∷ list) [] s a h = absurd h
events_more S start n w (t ∷ list) (b ∷ answers) s a h =
    ap (λ (es : List Event). event_of t b ++ es) (events_more S start n (steps w (event_of t b)) list answers s a h.1) ∙ sym (append_assoc (event_of t b) (events_of list answers) (event_of s a))

answered_more : (S : List Point) (start : List Pair) (n : ℕ) (w : Weave) (list : List Step) (answers : List StepAnswer) (s : Step) (a : StepAnswer) → AreAnswered S start n w list answers
    → IsAnswered S start n (steps w (events_of list answers)) s a → AreAnswered S start n w (list ++ s ∷ []) (answers ++ a ∷ [])
answered_more S start n w [] [] s a h now = (now, tt)
answered_more S start n w [] (b ∷ answers) s a h now = absurd h
answered_more S start n w (t ∷ list) [] s a h now = absurd h
answered_more S start n w (t ∷ list) (b ∷ answers) s a h now = (
  h.0,
  answered_more S start n (steps w (event_of t b)) list answers s a h.1
      (subst (λ (x : Weave). IsAnswered S start n x s a) (steps_append w (event_of t b) (events_of list answers)) now),
)

-- nothing was done yet
pub weaving_begins : (old : Replayed) (owners : List (Option ℕ)) (list : List Step) → ((v : ℕ) → owner_in owners v ≡ None) → length owners ≡ length old.points + 1 → IsWeaving old old owners list [] 0
weaving_begins old owners list free count = record {
  answered = tt;
  weave = ap (λ (f : ℕ → Option ℕ). record { journal = old.journal; owner = f }) (fun_ext free);
  points = refl;
  start = refl;
  count = count;
  few = omega arith;
  answers_count = refl;
}

pub weaving_more : (old now new : Replayed) (owners owners_new : List (Option ℕ)) (list : List Step) (answers : List StepAnswer) (k : ℕ) (s : Step) (a : StepAnswer)
    → k < length list → s ≡ slice_index_or list k s → IsWeaving old now owners list answers k → HasStepped now new owners owners_new s a → IsWeaving old new owners_new list (answers ++ a ∷ []) (k + 1)
weaving_more old now new owners owners_new list answers k s a h at so stepped =
    let S : List Point = old.points in
    let n : ℕ = length old.points in
    let first : Weave = all_free old.journal in
    let next : take (k + 1) list ≡ take k list ++ s ∷ [] = take_more list k s h ∙ ap (λ (x : Step). take k list ++ x ∷ []) (sym at) in
    let here : IsAnswered S old.start n (steps first (events_of (take k list) answers)) s a =
    subst (λ (x : Weave). IsAnswered S old.start n x s a) so.weave
    (subst (λ (T : List Pair). IsAnswered S T n (weave_of now owners) s a) so.start
    (subst (λ (P : List Point). IsAnswered P now.start (length P) (weave_of now owners) s a) so.points stepped.answered)) in
    record {
      answered = subst (λ (xs : List Step). AreAnswered S old.start n first xs (answers ++ a ∷ [])) (sym next)
          (answered_more S old.start n first (take k list) answers s a so.answered here);
      weave = stepped.after ∙ ap (λ (x : Weave). steps x (event_of s a)) so.weave ∙ sym (steps_append first (events_of (take k list) answers) (event_of s a))
          ∙ ap (λ (es : List Event). steps first es) (sym (events_more S old.start n first (take k list) answers s a so.answered))
          ∙ ap (λ (xs : List Step). steps first (events_of xs (answers ++ a ∷ []))) (sym next);
      points = stepped.points ∙ so.points;
      start = stepped.start ∙ so.start;
      count = stepped.count ∙ so.count ∙ ap (λ (P : List Point). length P + 1) (sym stepped.points);
      few = (let p = so.few in let q = stepped.few in omega (arith, p, q));
      answers_count = (let p = length-append answers (a ∷ []) in let q = so.answers_count in omega (arith, p, q));
    }

-- what was done up to here
pub woven_here : (old now new : Replayed) (owners : List (Option ℕ)) (list : List Step) (answers : List StepAnswer) (k : ℕ) → IsWeaving old now owners list answers k → IsAsBefore now new
    → HasWoven old new (take k list) answers
woven_here old now new owners list answers k so same =
    let events : List Event = events_of (take k list) answers in
    let journal : new.journal ≡ (steps (all_free old.journal) events).journal = same.journal ∙ ap (λ (w : Weave). w.journal) so.weave in
    record {
      answered = so.answered;
      run = answered_run old.points old.start (length old.points) (all_free old.journal) (take k list) answers so.answered;
      grows = record {
        points = same.points ∙ so.points;
        start = same.start ∙ so.start;
        journal = journal ∙ steps_journal (all_free old.journal) events;
      };
      journal = journal;
    }

pub law_kept : (old new : Replayed) (list : List Step) (answers : List StepAnswer) → AreAccepted old.points → IsCore old → HasWoven old new list answers → HasKeptLaw old list answers
law_kept old new list answers accepted core woven =
    lawful_run old.points old.start (length old.points) (all_free old.journal) (events_of list answers) accepted core.ascending core.triangulation core.legal woven.run

pub woven_part : (old now new : Replayed) (owners : List (Option ℕ)) (list : List Step) (answers : List StepAnswer) (k : ℕ) → AreAccepted old.points → IsCore old
    → IsWeaving old now owners list answers k → IsAsBefore now new → IsWovenInPart old new list
woven_part old now new owners list answers k accepted core so same =
    let woven = woven_here old now new owners list answers k so same in (k, answers, woven, law_kept old new (take k list) answers accepted core woven)

as_before : (c : Replayed) → IsAsBefore c c
as_before c = record { points = refl; start = refl; journal = refl; room = omega arith }

pub woven_still : (old now : Replayed) (owners : List (Option ℕ)) (list : List Step) (answers : List StepAnswer) (k : ℕ) → AreAccepted old.points → IsCore old
    → IsWeaving old now owners list answers k → IsWovenInPart old now list
woven_still old now owners list answers k accepted core so = woven_part old now now owners list answers k accepted core so (as_before now)

-- nothing was done
pub woven_none : (old : Replayed) (list : List Step) → AreAccepted old.points → IsCore old → IsWovenInPart old old list
woven_none old list accepted core =
    let free : List (Option ℕ) = replicate (length old.points + 1) None in
    woven_still old old free list [] 0 accepted core (weaving_begins old free list (owner_free (length old.points + 1)) (length-replicate {A = Option ℕ} (length old.points + 1) None))

pub woven_whole : (old now : Replayed) (owners : List (Option ℕ)) (list : List Step) (answers : List StepAnswer) (k : ℕ) → length list ≤ k → IsWeaving old now owners list answers k
    → HasWoven old now list answers
woven_whole old now owners list answers k h so =
    subst (λ (xs : List Step). HasWoven old now xs answers) (take_all k list h) (woven_here old now now owners list answers k so (as_before now))
