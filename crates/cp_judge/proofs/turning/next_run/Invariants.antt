use Rattle.std.specs.List.{All}
use Rattle.cp_judge.specs.Turning.{IsTarget}
use Rattle.cp_judge.proofs.turning.next_run.Given as goal

abbrev pub invariant-loop-k : goal.invariant-loop-k
invariant-loop-k l = All (IsTarget l.ends l.p) l.run.items
