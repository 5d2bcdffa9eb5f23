use Rattle.edit.proofs.TrueEnds.{met_low, met_high}
use Rattle.edit.proofs.drop_row.drop_fits.Goals as goal

pub opens_low-requires-clause-met : goal.opens_low-requires-clause-met
opens_low-requires-clause-met c = λ known. met_low c.args.points.now c.args.lower.now c.args.upper.now c.args.e (c.requires.known known)

pub opens_high-requires-clause-met : goal.opens_high-requires-clause-met
opens_high-requires-clause-met c = λ known. met_high c.args.points.now c.args.lower.now c.args.upper.now c.args.e (c.requires.known known)
