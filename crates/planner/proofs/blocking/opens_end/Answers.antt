use Rattle.std.proofs.Common.{sym}
use Rattle.planner.proofs.Agreed.{points_there}
use Rattle.planner.proofs.Blocked.{met_held, opened_held}
use Rattle.planner.proofs.blocking.opens_end.Goals as goal

pub opens_without-requires-clause-points : goal.opens_without-requires-clause-points
opens_without-requires-clause-points c = points_there c.args.points.now c.args.region.now c.args.v c.in-Some.star.now c.requires.points (sym c.in-Some.ensures.star)

pub opens_without-requires-clause-met : goal.opens_without-requires-clause-met
opens_without-requires-clause-met c = λ t. met_held c.args.points.now c.args.region.now c.args.v c.in-Some.star.now c.requires.points c.requires.agree (sym c.in-Some.ensures.star)

pub returns-in-Some : goal.returns-in-Some
returns-in-Some c = λ t. opened_held c.args.points.now c.args.region.now c.args.v c.args.w c.in-Some.star.now c.requires.points (sym c.in-Some.ensures.star) (c.opens_without.ensures.opened t)
