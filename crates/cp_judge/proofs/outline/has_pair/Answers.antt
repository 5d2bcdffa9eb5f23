use Rattle.std.proofs.Common.{sym, rules}
use Rattle.cp_judge.proofs.outline.has_pair.Goals as goal

pub returns-in-Ok : goal.returns-in-Ok
returns-in-Ok c = λ t. (c.in-Ok.k, c.index-sorted-k.result, search rules, sym c.index-sorted-k.is, c.has_ends.ensures t)
