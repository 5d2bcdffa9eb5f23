use Rattle.cp_judge.proofs.Outlined.{border_of_sides}
use Rattle.cp_judge.proofs.outline.has_outline.Goals as goal

pub returns-then-left-clause-border : goal.returns-then-left-clause-border
returns-then-left-clause-border c = λ t.
    border_of_sides c.args.points.now c.args.sorted.now c.len.ensures.accepted.apart (c.follow-left.ensures.side c.if-left.true) (c.follow-right.ensures.side t)
