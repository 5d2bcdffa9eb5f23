use Rattle.raise_laws.proofs.laws.Raises.{raised_valid, raised_grows}
use Rattle.raise_laws.proofs.laws.Tightened.{raised_tight, raised_value}
use Rattle.raise_laws.proofs.raising.raised_is_good.Goals as goal

pub returns : goal.returns
returns c = λ D h q rows out valid covered raised. (record { valid = raised_valid c.args.points.now D q rows out raised valid; tight = raised_tight c.args.points.now D q rows out raised valid covered }, raised_grows c.args.points.now D q rows out raised, raised_value c.args.points.now D h q rows out valid.divisor raised)
