use Rattle.planner.proofs.Planned.{flip_planned, flip_none, flip_free_of_cost, held_of}
use Rattle.planner.specs.Region.{sights}
use Rattle.planner.proofs.flipping.plan_flip.Goals as goal

pub across-requires : goal.across-requires
across-requires c = held_of c.args.points.now c.args.region.now c.requires.points c.requires.agree c.count-count.ensures.region

pub plan_one-requires-clause-held : goal.plan_one-requires-clause-held
plan_one-requires-clause-held c = held_of c.args.points.now c.args.region.now c.requires.points c.requires.agree c.count-count.ensures.region

pub plan_one-requires-clause-free : goal.plan_one-requires-clause-free
plan_one-requires-clause-free c = λ D. flip_free_of_cost D c.args.pair c.in-Some.to

pub returns-in-Some : goal.returns-in-Some
returns-in-Some c = λ D. flip_planned c.args.points.now D (sights c.args.region.now) c.args.pair c.in-Some.to c.plan_one.result (λ v h. (c.requires.agree.stars v h).0) c.in-Some.ensures (c.plan_one.ensures D)

pub returns-in-None : goal.returns-in-None
returns-in-None c = λ D. flip_none c.args.points.now D (sights c.args.region.now) c.args.pair c.in-None.ensures
