use Rattle.raise_laws.proofs.laws.Tightened.{raised_once}
use Rattle.raise_laws.proofs.raising.raised_is_one.Goals as goal

pub returns : goal.returns
returns c = λ D q rows a b x y. raised_once c.args.points.now D q rows a b x y
