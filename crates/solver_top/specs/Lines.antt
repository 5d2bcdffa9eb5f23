-- The lines that are printed. (This project's own.)
use Rattle.std.specs.Prelude.{ℕ, List, ◌++◌, codes}
use Rattle.std.specs.Fmt.{decimal}
use Rattle.fault_texts.specs.Texts.{pair_text}
use Rattle.cp_judge.specs.declared.answer.Judgement.{Judgement}
use Rattle.cp_judge.specs.declared.answer.Judgement.TheVariants.{Convex, Doubled, NotClear, Crossing, MissingBorder, Unmet}

abbrev pub usage_line : ℕ → List ℕ
usage_line k = codes "usage " ++ (decimal k ++ codes "\n")

abbrev pub judgement_line : Judgement → List ℕ
judgement_line (Convex n) = codes "convex partition " ++ (decimal n ++ codes " segments\n")
judgement_line (Doubled e) = codes "no Doubled " ++ (pair_text e ++ codes "\n")
judgement_line (NotClear e p) = codes "no NotClear " ++ (pair_text e ++ (codes " " ++ (decimal p ++ codes "\n")))
judgement_line (Crossing e f) = codes "no Crossing " ++ (pair_text e ++ (codes " " ++ (pair_text f ++ codes "\n")))
judgement_line (MissingBorder e) = codes "no MissingBorder " ++ (pair_text e ++ codes "\n")
judgement_line (Unmet p q) = codes "no Unmet " ++ (decimal p ++ (codes " " ++ (decimal q ++ codes "\n")))
