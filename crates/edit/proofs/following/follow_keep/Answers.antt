use Rattle.edit.proofs.StarSteps.{before_unmarked, keep_after}
use Rattle.edit.proofs.following.follow_keep.Goals as goal

pub keep_end-requires-clause-spare : goal.keep_end-requires-clause-spare
keep_end-requires-clause-spare c = before_unmarked c.args.points.now c.args.e c.args.star.now c.requires.legal

pub returns : goal.returns
returns c = keep_after c.args.points.now c.args.e c.args.star.now c.keep_end.new.star c.len-count.ensures.accepted c.requires.legal c.keep_end.ensures.mark c.keep_end.ensures.order
