use Rattle.std.proofs.Common.{rules}
use Rattle.triangulation_check.proofs.tests.answer.Goals as goal

pub is_triangulation-requires-clause-within : goal.is_triangulation-requires-clause-within
is_triangulation-requires-clause-within c = c.are_within.ensures.0 (search rules)
