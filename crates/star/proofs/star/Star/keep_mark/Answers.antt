use Rattle.std.proofs.Common.{false}
use Rattle.star.proofs.laws.Marks.{mark_at}
use Rattle.star.proofs.star.Star.keep_mark.Goals as goal

pub keep_at-requires-clause-spare : goal.keep_at-requires-clause-spare
keep_at-requires-clause-spare c = mark_at c.args.self.now c.args.q c.position-k.result false c.position-k.ensures.order c.requires.spare c.position-k.ensures.place
