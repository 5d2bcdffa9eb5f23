use Rattle.std.proofs.Common.{subst, sym}
use Rattle.price_defs.specs.Tight.{AreCovered}
use Rattle.price_tests.proofs.tests.starts.raised_with_takers.Goals as goal

pub raised-requires-clause-covered : goal.raised-requires-clause-covered
raised-requires-clause-covered c = subst (AreCovered c.args.points.now) (sym c.make.ensures) c.in_ok-rows.ensures.covered
