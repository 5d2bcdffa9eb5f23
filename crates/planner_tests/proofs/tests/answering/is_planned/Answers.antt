use Rattle.std.proofs.Common.{refl}
use Rattle.planner_tests.proofs.tests.answering.is_planned.Goals as goal

pub are_fine-requires-clause-within : goal.are_fine-requires-clause-within
are_fine-requires-clause-within c = c.if-not-is_within.ensures.0 refl
