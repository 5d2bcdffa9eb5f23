use Rattle.board_thread_tests.proofs.tests.many.are_legal.Goals as goal

pub first_illegal-requires-clause-within : goal.first_illegal-requires-clause-within
first_illegal-requires-clause-within c = c.is_within.ensures.0 c.if-not-is_within.false
