use Rattle.number_laws.proofs.Loops.{passed}
use Rattle.partition_defs.proofs.meets_needs_of.Goals as goal

pub returns-else-not-is_inner : goal.returns-else-not-is_inner
returns-else-not-is_inner c =
    (λ h _. c.meets_needs_at.ensures.0 h, λ f. c.meets_needs_at.ensures.1 (f (passed c.is_inner.result _ c.if-not-is_inner.false c.is_inner.ensures)))
