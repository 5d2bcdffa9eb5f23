use Rattle.journal_defs.specs.Edits.{IsLegal}
use Rattle.journal_defs.specs.Table.{Fits, Refuses, seen_of}
use Rattle.journal_defs.proofs.laws.Table.{fits_legal, refused_illegal}
use Rattle.edit.proofs.Rows.{ok_legal}
use Rattle.edit.proofs.fitting.fits_on_true_stars.Goals as goal

pub returns-clause-legal : goal.returns-clause-legal
returns-clause-legal g c = λ s sound stars.
    (let at = seen_of (g.S.Stars.star_of c.args.stars.now) in
    ok_legal (Fits c.args.points.now at c.args.edit.now) (IsLegal c.args.points.now s c.args.edit.now) (λ why. Refuses c.args.points.now at c.args.edit.now why) c.first_refusal.result c.first_refusal.ensures
    (λ h. fits_legal c.args.points.now s at c.args.edit.now sound stars h)
    (λ why h. refused_illegal c.args.points.now s at c.args.edit.now why sound stars h))
