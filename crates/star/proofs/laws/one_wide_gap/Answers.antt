use Rattle.std.proofs.Common.{subst, sym}
use Rattle.star.specs.Stars.{IsOrderly}
use Rattle.star.proofs.Gaps.{one_wide_gap}
use Rattle.star.proofs.laws.one_wide_gap.Goals as goal

pub returns : goal.returns
returns c =
    one_wide_gap c.args.points.now c.args.star.now.centre c.args.star.now.list c.args.i c.args.j c.args.k c.args.l c.len-count.ensures.accepted.apart
    (subst (λ S. IsOrderly S c.args.star.now.centre c.args.star.now.list) (sym c.requires.points) c.centre-centre.ensures.order)
    c.requires.first c.requires.after_first c.requires.second c.requires.after_second
