use Rattle.std.proofs.Common.{◌≡◌, drop}
use Rattle.planner.specs.Region.{sights}
use Rattle.round_defs.proofs.laws.Firsts.{Decides}
use Rattle.round_plans.specs.Choices.{trades_of, IsReady}
use Rattle.round_plans.proofs.trading.first_trade.Given as goal

abbrev pub invariant-loop-a : goal.invariant-loop-a
invariant-loop-a l = record {
  ready : IsReady l.points l.region;
  before : sights l.region ≡ sights l.fn.region;
  decides : Decides l.points l.costs (sights l.fn.region) (trades_of l.kept (drop l.a l.spare)) (trades_of l.kept l.spare);
}
