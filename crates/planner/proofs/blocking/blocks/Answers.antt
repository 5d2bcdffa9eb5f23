use Rattle.planner.specs.Region.{sights}
use Rattle.plan_defs.specs.Plans.{star_in}
use Rattle.planner.proofs.Blocked.{blocks_low, blocks_high}
use Rattle.planner.proofs.blocking.blocks.Goals as goal

pub returns-then-opens_untouched : goal.returns-then-opens_untouched
returns-then-opens_untouched c = λ t. blocks_low c.args.points.now (star_in c.args.points.now (sights c.args.region.now)) c.args.before.now c.args.edit.now c.in-Drop.e c.lo.result c.hi.result c.in-Drop.is c.lo.ensures c.hi.ensures (c.opens_untouched.ensures t)

pub returns-else-opens_untouched : goal.returns-else-opens_untouched
returns-else-opens_untouched c = λ t. blocks_high c.args.points.now (star_in c.args.points.now (sights c.args.region.now)) c.args.before.now c.args.edit.now c.in-Drop.e c.hi-else-opens_untouched.result c.lo-else-opens_untouched.result c.in-Drop.is c.hi-else-opens_untouched.ensures c.lo-else-opens_untouched.ensures (c.opens_untouched-else-opens_untouched.ensures t)
