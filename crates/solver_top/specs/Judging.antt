-- What `judge` answers to an input. (This project's own.)
use Rattle.std.specs.Prelude.{◌≡◌, ◌≢◌, ℕ, List, length}
use Rattle.plane.specs.declared.coordinates.Point.{Point}
use Rattle.plane.specs.declared.segment.Pair.{Pair}
use Rattle.partition_defs.specs.Partition.{IsConvexPartition}
use Rattle.partition_defs.specs.Triangulation.{AreDistinct}
use Rattle.cp_judge.specs.declared.answer.Judgement.{Judgement}
use Rattle.cp_judge.specs.declared.answer.Judgement.TheVariants.{Convex}
use Rattle.cp_judge.specs.Judgement.{IsJudgement}
use Rattle.solver_top.specs.declared.status.Verdict.{Verdict}
use Rattle.solver_top.specs.declared.status.Verdict.TheVariants.{Done, No, Usage, Refused}
use Rattle.solver_top.specs.declared.refusals.Refusal.{Refusal}
use Rattle.solver_top.specs.Lines.{judgement_line}
use Rattle.solver_top.specs.Bundles.{HasBundle, HasRefusal, refusal_line}

-- the first refusal of an input, printed
abbrev pub IsRefused : List ℕ → List ℕ → Type 0
IsRefused input text = (refusal : Refusal) × HasRefusal input refusal × (text ≡ refusal_line refusal)

-- the judgement on the bundle of an input, printed: convex exactly at Done
abbrev pub IsJudged : List ℕ → Verdict → List ℕ → Type 0
IsJudged input Done text = (S : List Point) × (K : List Pair) × HasBundle input S K
    × AreDistinct K × IsConvexPartition S K × (text ≡ judgement_line (Convex (length K)))
IsJudged input No text = (S : List Point) × (K : List Pair) × (j : Judgement) × HasBundle input S K
    × IsJudgement S K j × (j ≢ Convex (length K)) × (text ≡ judgement_line j)
IsJudged input Usage text = ⊥
IsJudged input Refused text = IsRefused input text
