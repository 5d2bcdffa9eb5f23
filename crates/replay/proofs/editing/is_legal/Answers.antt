use Rattle.journal_defs.specs.Table.{Fits, Refuses, seen_of}
use Rattle.subdivision.specs.Layout.{star_or_none}
use Rattle.replay.specs.Edited.{IsFault}
use Rattle.replay.specs.Machine.{layers}
use Rattle.replay.proofs.Answered.{on_ok, if_err}
use Rattle.replay.proofs.Edited.{stars_for, stars_true, refusal_says}
use Rattle.replay.proofs.editing.is_legal.Goals as goal

pub fits_on_true_stars-requires-clause-stars : goal.fits_on_true_stars-requires-clause-stars
fits_on_true_stars-requires-clause-stars c = stars_for c.args.points.now c.args.all.now c.args.edit.now c.requires.sound c.requires.within

pub fits_on_true_stars-requires-clause-known : goal.fits_on_true_stars-requires-clause-known
fits_on_true_stars-requires-clause-known c =
    (layers c.args.all.now, c.requires.sound.sound, stars_true c.args.points.now c.args.all.now c.args.edit.now c.requires.sound c.requires.within)

pub returns-clause-legal : goal.returns-clause-legal
returns-clause-legal c =
    on_ok c.fits_on_true_stars.result (c.fits_on_true_stars.ensures.legal (layers c.args.all.now) c.requires.sound.sound (stars_true c.args.points.now c.args.all.now c.args.edit.now c.requires.sound c.requires.within))

pub returns-clause-refused : goal.returns-clause-refused
returns-clause-refused c =
    if_err (λ _. Fits c.args.points.now (seen_of (λ v. star_or_none c.args.all.now.stars v)) c.args.edit.now) (λ why. Refuses c.args.points.now (seen_of (λ v. star_or_none c.args.all.now.stars v)) c.args.edit.now why) (IsFault c.args.points.now (layers c.args.all.now) c.args.edit.now) c.fits_on_true_stars.result c.fits_on_true_stars.ensures.table
    (λ why r. refusal_says c.args.points.now c.args.all.now c.args.edit.now why c.len-count.ensures.accepted c.requires.sound c.requires.within r)
