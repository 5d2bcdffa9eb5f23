use Rattle.std.proofs.Common.{sym, rules}
use Rattle.triangulation_check.proofs.joined.is_joined.Goals as goal

pub returns-then-is_end : goal.returns-then-is_end
returns-then-is_end c =
    (λ _. (let (q, h) = c.is_end.ensures.0 (search rules) in (q, (c.loop-e.e-index, c.e-item.result, c.loop-e-test.true, sym c.e-item.is, h))), search rules)
