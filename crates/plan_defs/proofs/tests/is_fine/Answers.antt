use Rattle.plan_defs.proofs.tests.is_fine.Goals as goal

pub are_fine-requires-clause-within : goal.are_fine-requires-clause-within
are_fine-requires-clause-within g c = c.is_within.ensures.0 c.if-not-is_within.false
