use Rattle.std.proofs.Common.{true}
use Rattle.star.proofs.laws.Marks.{mark_at}
use Rattle.star.proofs.star.Star.drop_mark.Goals as goal

pub drop_at-requires-clause-kept : goal.drop_at-requires-clause-kept
drop_at-requires-clause-kept c = (c.position-k.ensures.place.0, mark_at c.args.self.now c.args.q c.position-k.result true c.position-k.ensures.order c.requires.kept c.position-k.ensures.place)
