use Rattle.planner.specs.Region.{sights}
use Rattle.planner.proofs.Planned.{turn_none, held_of, as_before}
use Rattle.planner.proofs.flipswapping.plan_flip_swap.Goals as goal

pub across-requires : goal.across-requires
across-requires c = held_of c.args.points.now c.args.region.now c.requires.points c.requires.agree c.count-count.ensures.region

pub plan_to-requires-clause-held : goal.plan_to-requires-clause-held
plan_to-requires-clause-held c = held_of c.args.points.now c.args.region.now c.requires.points c.requires.agree c.count-count.ensures.region

pub returns-in-None-clause-plan : goal.returns-in-None-clause-plan
returns-in-None-clause-plan c = turn_none c.args.points.now c.args.costs.now (sights c.args.region.now) c.args.pair c.args.first c.args.second c.in-None.ensures

pub returns-in-None-clause-before : goal.returns-in-None-clause-before
returns-in-None-clause-before c = as_before c.args.points.now c.args.region.now (held_of c.args.points.now c.args.region.now c.requires.points c.requires.agree c.count-count.ensures.region)
