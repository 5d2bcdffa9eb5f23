use Rattle.std.proofs.Common.{◌≡◌, drop, map}
use Rattle.planner.specs.Region.{sights}
use Rattle.round_defs.proofs.laws.Firsts.{Decides}
use Rattle.round_plans.specs.Choices.{two_of, IsReady}
use Rattle.round_plans.proofs.choosing.first_with.Given as goal

abbrev pub invariant-loop-b : goal.invariant-loop-b
invariant-loop-b l = record {
  ready : IsReady l.points l.region;
  before : sights l.region ≡ sights l.fn.region;
  decides : Decides l.points l.costs (sights l.fn.region) (map (two_of l.head l.first) (drop l.b l.list)) (map (two_of l.head l.first) (drop l.from l.list));
}
