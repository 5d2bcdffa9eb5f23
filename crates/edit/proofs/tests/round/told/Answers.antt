use Rattle.edit.proofs.TestStars.{stars_for}
use Rattle.edit.proofs.tests.round.told.Goals as goal

pub fits-requires : goal.fits-requires
fits-requires c = stars_for c.args.points.now c.args.round.now.stars c.args.edit.now c.requires.2 c.requires.1 (c.is_within.ensures c.if-is_within.true)
