-- The steps of a script on the core of its start, and what is printed of them. (This project's own.)
use Rattle.std.specs.Prelude.{◌≡◌, ℕ, List, [], ◌++◌, length}
use Rattle.plane.specs.declared.coordinates.Point.{Point}
use Rattle.plane.specs.declared.segment.Pair.{Pair}
use Rattle.journal_defs.specs.declared.commit.Commit.{Commit}
use Rattle.journal_defs.specs.Journal.{replay}
use Rattle.journal_defs.specs.Weave.{steps as weave_after}
use Rattle.triangulate.specs.Start.{IsSortedStart}
use Rattle.weave.specs.declared.step.Step.{Step}
use Rattle.weave.specs.declared.step.StepAnswer.{StepAnswer}
use Rattle.weave.specs.Answers.{AreAnswered, events_of}
use Rattle.weave.specs.Law.{IsLawful}
use Rattle.weave.specs.Woven.{all_free}
use Rattle.weave_script.specs.Lines.{answers_text, end_line}

-- the journal after the events that the answered steps stand for, from an empty one
abbrev pub journal_of : List Step → List StepAnswer → List Commit
journal_of list answers = (weave_after (all_free []) (events_of list answers)).journal

-- The text is that of the steps: from the sweep triangulation and an empty journal, with all places free, each step is
-- answered as the weave answers it in its turn, and the law of the weave holds of the whole run. The text has a line for
-- each answer, and a last one with the length of the journal and the number of kept segments.
pub record IsPlayed (S : List Point) (list : List Step) (text : List ℕ) : Type 0 where
  pub start : List Pair
  pub is_start : IsSortedStart S start
  pub answers : List StepAnswer
  pub answered : AreAnswered S start (length S) (all_free []) list answers
  pub lawful : IsLawful S start (all_free []) (events_of list answers)
  pub is : text ≡ answers_text answers
      ++ end_line (length (journal_of list answers)) (length (replay start (journal_of list answers)).kept)
