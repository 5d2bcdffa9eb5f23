use Rattle.std.proofs.Common.{refl}
use Rattle.std.proofs.lemmas.Bool.{false≢true}
use Rattle.planner.proofs.Fitted.{stars_for, fits_there, fits_not}
use Rattle.planner.proofs.moves.does_fit.Goals as goal

pub fits-requires : goal.fits-requires
fits-requires c = stars_for c.args.points.now c.args.region.now c.args.edit.now c.requires.held c.requires.looked

pub returns-in-Ok : goal.returns-in-Ok
returns-in-Ok c = (λ t. fits_there c.args.points.now c.args.region.now c.args.edit.now c.requires.held c.requires.looked c.in-Ok.ensures.table, λ f. refl)

pub returns-in-Err : goal.returns-in-Err
returns-in-Err c = (λ t. absurd (false≢true t), λ f. absurd (fits_not c.args.points.now c.args.region.now c.args.edit.now c.in-Err.field-0 c.requires.held c.requires.looked c.in-Err.ensures.table f))
