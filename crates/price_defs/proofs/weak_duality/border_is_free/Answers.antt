use Rattle.std.proofs.Common.{arith}
use Rattle.price_defs.proofs.laws.Counted.{border_free}
use Rattle.price_defs.proofs.weak_duality.border_is_free.Goals as goal

pub returns : goal.returns
returns c = λ D q rows i j right b l n. (border_free c.args.points.now rows i j right b l n, omega (arith, border_free c.args.points.now rows i j right b l n))
