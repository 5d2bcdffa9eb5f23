use Rattle.std.proofs.Common.{subst, sym}
use Rattle.star.specs.Stars.{IsOrderly}
use Rattle.star.proofs.Splits.{missed_with_mark}
use Rattle.star.proofs.laws.needs_with.Goals as goal

pub returns : goal.returns
returns c =
    missed_with_mark c.args.points.now c.args.star.now.centre c.args.star.now.list c.args.k c.args.a c.args.b c.len-count.ensures.accepted
    (subst (λ S. IsOrderly S c.args.star.now.centre c.args.star.now.list) (sym c.requires.points) c.centre-centre.ensures.order)
    c.requires.kept c.requires.before c.requires.after c.requires.wide
