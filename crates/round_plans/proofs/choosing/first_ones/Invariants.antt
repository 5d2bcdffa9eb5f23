use Rattle.std.proofs.Common.{◌≡◌, drop, map}
use Rattle.planner.specs.Region.{sights}
use Rattle.round_defs.proofs.laws.Firsts.{Decides}
use Rattle.round_plans.specs.Choices.{one_of, IsReady}
use Rattle.round_plans.proofs.choosing.first_ones.Given as goal

abbrev pub invariant-loop-a : goal.invariant-loop-a
invariant-loop-a l = record {
  ready : IsReady l.points l.region;
  before : sights l.region ≡ sights l.fn.region;
  decides : Decides l.points l.costs (sights l.fn.region) (map (one_of l.kind l.pair) (drop l.a l.list)) (map (one_of l.kind l.pair) l.list);
}
