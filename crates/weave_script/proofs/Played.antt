-- The steps of a script on the core of its start.
use Rattle.std.proofs.Common.{◌≡◌, ℕ, List, [], ◌∷◌, ◌++◌, length, sym, ◌∙◌, ap, subst}
use Rattle.plane.specs.declared.coordinates.Point.{Point}
use Rattle.plane.specs.declared.segment.Pair.{Pair}
use Rattle.journal_defs.specs.declared.commit.Commit.{Commit}
use Rattle.journal_defs.specs.Journal.{replay}
use Rattle.journal_defs.specs.Weave.{steps as weave_after}
use Rattle.replay.specs.Replayed.{Replayed, state_of}
use Rattle.triangulate.specs.Start.{IsSortedStart}
use Rattle.weave.specs.declared.step.Step.{Step}
use Rattle.weave.specs.declared.step.StepAnswer.{StepAnswer}
use Rattle.weave.specs.Answers.{AreAnswered, events_of}
use Rattle.weave.specs.Law.{IsLawful}
use Rattle.weave.specs.Woven.{all_free, HasWoven, HasKeptLaw}
use Rattle.weave_script.specs.Lines.{answers_text, end_line}
use Rattle.weave_script.specs.Playing.{journal_of, IsPlayed}

pub played : (S : List Point) (old new : Replayed) (list : List Step) (answers : List StepAnswer) (text : List ℕ) → old.points ≡ S → IsSortedStart S old.start → old.journal ≡ []
    → HasWoven old new list answers → HasKeptLaw old list answers → text ≡ answers_text answers ++ end_line (length new.journal) (length (state_of new).kept) → IsPlayed S list text
played S old new list answers text points is_start none woven law is =
    let journal : new.journal ≡ journal_of list answers =
    woven.journal ∙ ap (λ (J : List Commit). (weave_after (all_free J) (events_of list answers)).journal) none in
    record {
      start = old.start;
      is_start = is_start;
      answers = answers;
      answered = subst (λ (P : List Point). AreAnswered P old.start (length P) (all_free []) list answers) points
          (subst (λ (J : List Commit). AreAnswered old.points old.start (length old.points) (all_free J) list answers) none woven.answered);
      lawful = subst (λ (P : List Point). IsLawful P old.start (all_free []) (events_of list answers)) points
          (subst (λ (J : List Commit). IsLawful old.points old.start (all_free J) (events_of list answers)) none law);
      is = is ∙ ap (λ (J : List Commit). answers_text answers ++ end_line (length J) (length (replay new.start J).kept)) journal
          ∙ ap (λ (T : List Pair). answers_text answers ++ end_line (length (journal_of list answers)) (length (replay T (journal_of list answers)).kept)) woven.grows.start;
    }
