use Rattle.edit.proofs.tests.walk.is_open.Goals as goal

pub crosses_none-requires-clause-within : goal.crosses_none-requires-clause-within
crosses_none-requires-clause-within c = c.are_within.ensures.0 c.if-not-are_within.false
