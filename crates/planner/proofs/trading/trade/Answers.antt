use Rattle.planner.specs.Region.{sights}
use Rattle.planner.proofs.Planned.{trade_planned, held_of}
use Rattle.planner.proofs.trading.trade.Goals as goal

pub plan_marks-requires-clause-held : goal.plan_marks-requires-clause-held
plan_marks-requires-clause-held c = held_of c.args.points.now c.args.region.now c.requires.points c.requires.agree c.count-count.ensures.region

pub returns-clause-plan : goal.returns-clause-plan
returns-clause-plan c = trade_planned c.args.points.now c.args.costs.now (sights c.args.region.now) c.args.keep c.args.other c.args.first c.args.second c.plan_marks.result c.plan_marks.ensures.answer
