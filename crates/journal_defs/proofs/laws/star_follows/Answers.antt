use Rattle.journal_defs.proofs.laws.Follow.{star_follows}
use Rattle.journal_defs.proofs.laws.star_follows.Goals as goal

pub returns : goal.returns
returns c = λ s e v so legal hv. star_follows c.args.points.now s e v c.len-count.ensures.accepted so legal hv
