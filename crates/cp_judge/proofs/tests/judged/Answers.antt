use Rattle.cp_judge.proofs.tests.judged.Goals as goal

pub judge-requires-clause-within : goal.judge-requires-clause-within
judge-requires-clause-within c = c.are_within.ensures.0 c.if-not-are_within.false
