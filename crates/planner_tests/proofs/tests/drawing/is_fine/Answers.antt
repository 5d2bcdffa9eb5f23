use Rattle.std.proofs.Common.{refl}
use Rattle.planner_tests.proofs.tests.drawing.is_fine.Goals as goal

pub is_legal-requires : goal.is_legal-requires
is_legal-requires c = c.if-not-is_within.ensures.0 refl
