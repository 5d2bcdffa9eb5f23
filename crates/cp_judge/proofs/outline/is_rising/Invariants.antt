use Rattle.cp_judge.specs.Chains.{IsRising}
use Rattle.cp_judge.proofs.outline.is_rising.Given as goal

abbrev pub invariant-loop-k : goal.invariant-loop-k
invariant-loop-k l = IsRising l.points l.order l.k
