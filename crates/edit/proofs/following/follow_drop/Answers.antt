use Rattle.edit.proofs.StarSteps.{before_marked, drop_after}
use Rattle.edit.proofs.following.follow_drop.Goals as goal

pub drop_end-requires-clause-kept : goal.drop_end-requires-clause-kept
drop_end-requires-clause-kept c = before_marked c.args.points.now c.args.e c.args.star.now c.requires.legal

pub returns : goal.returns
returns c = drop_after c.args.points.now c.args.e c.args.star.now c.drop_end.new.star c.len-count.ensures.accepted c.requires.legal c.drop_end.ensures.mark c.drop_end.ensures.order
