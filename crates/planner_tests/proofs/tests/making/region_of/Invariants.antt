use Rattle.planner.specs.Region.{AreFor}
use Rattle.planner_tests.proofs.tests.making.region_of.Given as goal

abbrev pub invariant-loop-v : goal.invariant-loop-v
invariant-loop-v l = AreFor l.points l.region
