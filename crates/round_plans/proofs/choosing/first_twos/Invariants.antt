use Rattle.std.proofs.Common.{◌≡◌, drop}
use Rattle.planner.specs.Region.{sights}
use Rattle.round_defs.proofs.laws.Firsts.{Decides}
use Rattle.round_plans.specs.Choices.{two_of, twos_of, IsReady}
use Rattle.round_plans.proofs.choosing.first_twos.Given as goal

abbrev pub invariant-loop-a : goal.invariant-loop-a
invariant-loop-a l = record {
  ready : IsReady l.points l.region;
  before : sights l.region ≡ sights l.fn.region;
  decides : Decides l.points l.costs (sights l.fn.region) (twos_of (two_of l.head) (drop l.a l.list)) (twos_of (two_of l.head) l.list);
}
