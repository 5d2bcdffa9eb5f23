use Rattle.std.proofs.Common.{sym}
use Rattle.planner.proofs.Agreed.{points_there}
use Rattle.planner.proofs.Across.{shown_held, no_star}
use Rattle.planner.proofs.apexes.apex.Goals as goal

pub shown_if_within-requires : goal.shown_if_within-requires
shown_if_within-requires c = points_there c.args.points.now c.args.region.now c.args.p c.in-Some.star.now c.requires.points (sym c.in-Some.ensures.star)

pub returns-in-Some : goal.returns-in-Some
returns-in-Some c = λ h. shown_held c.args.points.now c.args.region.now c.args.p c.args.q c.in-Some.star.now c.shown_if_within.result c.requires.points (sym c.in-Some.ensures.star) c.shown_if_within.ensures

pub returns-in-None : goal.returns-in-None
returns-in-None c = λ h. absurd (no_star c.args.region.now c.args.p (sym c.in-None.ensures.star) h)
