use Rattle.star.proofs.laws.Needs.{none_missed_of_met}
use Rattle.edit.proofs.marks.is_outer.Goals as goal

pub returns-then-are_met : goal.returns-then-are_met
returns-then-are_met c = λ t inner.
    none_missed_of_met c.args.star.now.points c.args.star.now.centre c.args.star.now.list (c.requires c.if-are_met.true inner) (c.misses_some.ensures.missed.0 t)
