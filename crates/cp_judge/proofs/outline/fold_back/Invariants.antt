use Rattle.std.proofs.Common.{◌<◌, length}
use Rattle.std.specs.List.{All}
use Rattle.cp_judge.proofs.outline.fold_back.Given as goal

abbrev pub invariant-folding : goal.invariant-folding
invariant-folding l = All (λ k. k < length l.order) l.chain.items
