use Rattle.std.proofs.Common.{◌≡◌, drop}
use Rattle.planner.specs.Region.{sights}
use Rattle.round_defs.proofs.laws.Firsts.{Decides}
use Rattle.round_plans.specs.Choices.{trades_with, IsReady}
use Rattle.round_plans.proofs.trading.first_with.Given as goal

abbrev pub invariant-loop-b : goal.invariant-loop-b
invariant-loop-b l = record {
  ready : IsReady l.points l.region;
  before : sights l.region ≡ sights l.fn.region;
  decides : Decides l.points l.costs (sights l.fn.region) (trades_with l.keep l.kept (drop l.b l.spare)) (trades_with l.keep l.kept (drop l.from l.spare));
}
