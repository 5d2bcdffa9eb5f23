use Rattle.std.proofs.Common.{subst, sym}
use Rattle.planner.specs.Region.{AreFor}
use Rattle.planner_tests.proofs.Regions.{of_none}
use Rattle.planner_tests.proofs.tests.making.region_of.Goals as goal

pub loop-v-init : goal.loop-v-init
loop-v-init c = subst (AreFor c.args.points.now) (sym c.make-region.ensures) (of_none c.args.points.now)
