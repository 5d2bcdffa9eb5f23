use Rattle.std.proofs.Common.{sym, rules}
use Rattle.partition_defs.proofs.joins.Goals as goal

pub returns-then-has_ends : goal.returns-then-has_ends
returns-then-has_ends c =
    (λ _. (c.loop-e.e-index, c.e-item.result, c.loop-e-test.true, sym c.e-item.is, c.has_ends.ensures.0 (search rules)), search rules)
