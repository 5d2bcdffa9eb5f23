use Rattle.std.proofs.Common.{refl}
use Rattle.session_tests.proofs.tests.plain.refused_at.Goals as goal

pub first_illegal-requires-clause-within : goal.first_illegal-requires-clause-within
first_illegal-requires-clause-within c = c.if-not-is_within.ensures.0 refl
