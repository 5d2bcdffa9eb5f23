use Rattle.std.proofs.Common.{◌≡◌, ◌++◌, map, nat_lt, false, codes}
use Rattle.serde_json.specs.Written.{items_text}
use Rattle.instance_io.specs.Refusal.{ends}
use Rattle.solution_io.proofs.SolutionText.{rest}
use Rattle.solution_io.proofs.writing.write_solution.Given as goal

abbrev pub invariant-loop-place : goal.invariant-loop-place
invariant-loop-place l =
    l.text.items ++ items_text (nat_lt 0 l.place) (rest l.place (map ends l.pairs))
    ≡ codes "{\"edges\":[" ++ items_text false (rest 0 (map ends l.pairs))
