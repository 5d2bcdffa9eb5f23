use Rattle.hands.proofs.Held.{stars_for, true_stars, legal_by, why_by}
use Rattle.hands.proofs.fitting.is_legal.Goals as goal

pub fits_on_true_stars-requires-clause-stars : goal.fits_on_true_stars-requires-clause-stars
fits_on_true_stars-requires-clause-stars c = stars_for c.args.points.now c.requires.right.0 c.args.hands.now c.args.edit.now c.len-count.ensures.accepted c.requires.right.1 c.requires.right.2 c.requires.covered

pub fits_on_true_stars-requires-clause-known : goal.fits_on_true_stars-requires-clause-known
fits_on_true_stars-requires-clause-known c = true_stars c.args.points.now c.requires.right.0 c.args.hands.now c.args.edit.now c.len-count.ensures.accepted c.requires.right.1 c.requires.right.2 c.requires.covered

pub returns-in-Ok-clause-legal : goal.returns-in-Ok-clause-legal
returns-in-Ok-clause-legal c = λ s sound right. legal_by c.args.points.now s c.args.hands.now c.args.edit.now c.len-count.ensures.accepted sound right c.requires.covered c.in-Ok.ensures.table

pub returns-in-Err-clause-illegal : goal.returns-in-Err-clause-illegal
returns-in-Err-clause-illegal c = λ s sound right. why_by c.args.points.now s c.args.hands.now c.args.edit.now c.in-Err.why c.len-count.ensures.accepted sound right c.requires.covered c.in-Err.ensures.table
