use Rattle.planner_tests.specs.Regions.{IsAgreed}
use Rattle.planner_tests.proofs.tests.compared.compare_moves.Given as goal

abbrev pub invariant-loop-asked : goal.invariant-loop-asked
invariant-loop-asked g l = IsAgreed l.scene.points.now l.region
