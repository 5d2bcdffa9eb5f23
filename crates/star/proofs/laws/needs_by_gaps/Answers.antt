use Rattle.std.proofs.Common.{subst, sym}
use Rattle.star.specs.Stars.{IsOrderly}
use Rattle.star.proofs.Gaps.{met_without_wide_gap, missed_with_wide_gap}
use Rattle.star.proofs.laws.needs_by_gaps.Goals as goal

pub returns-clause-met : goal.returns-clause-met
returns-clause-met c =
    met_without_wide_gap c.args.points.now c.args.star.now.centre c.args.star.now.list c.len-count.ensures.accepted
    (subst (λ S. IsOrderly S c.args.star.now.centre c.args.star.now.list) (sym c.requires) c.centre-centre.ensures.order)

pub returns-clause-missed : goal.returns-clause-missed
returns-clause-missed c =
    missed_with_wide_gap c.args.points.now c.args.star.now.centre c.args.star.now.list c.len-count.ensures.accepted
    (subst (λ S. IsOrderly S c.args.star.now.centre c.args.star.now.list) (sym c.requires) c.centre-centre.ensures.order)
