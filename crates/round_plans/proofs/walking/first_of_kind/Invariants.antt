use Rattle.std.proofs.Common.{◌≡◌, drop}
use Rattle.planner.specs.Region.{sights}
use Rattle.round_defs.proofs.laws.Firsts.{Decides}
use Rattle.round_plans.specs.Choices.{moves_of, IsReady}
use Rattle.round_plans.proofs.walking.first_of_kind.Given as goal

abbrev pub invariant-loop-k : goal.invariant-loop-k
invariant-loop-k l = record {
  ready : IsReady l.points l.region;
  before : sights l.region ≡ sights l.fn.region;
  decides : Decides l.points l.costs (sights l.fn.region) (moves_of l.kind (sights l.fn.region) l.v (drop l.k l.list)) (moves_of l.kind (sights l.fn.region) l.v l.list);
}
