use Rattle.planner.proofs.Planned.{drop_planned, drop_free, held_of}
use Rattle.planner.proofs.dropping.plan_drop.Goals as goal

pub plan_one-requires-clause-held : goal.plan_one-requires-clause-held
plan_one-requires-clause-held c = held_of c.args.points.now c.args.region.now c.requires.points c.requires.agree c.count-count.ensures.region

pub plan_one-requires-clause-free : goal.plan_one-requires-clause-free
plan_one-requires-clause-free c = λ D. drop_free D c.args.pair

pub returns : goal.returns
returns c = λ D. drop_planned c.args.points.now D _ c.args.pair c.plan_one.result (c.plan_one.ensures D)
