use Rattle.std.proofs.Common.{arith}
use Rattle.price_defs.proofs.laws.Values.{takes_le}
use Rattle.point_rows.proofs.point_rows.PointRows.takes.Goals as goal

pub returns-clause-small : goal.returns-clause-small
returns-clause-small c =
    omega (arith, c.of.ensures, c.self.invariant.takers c.args.e.lo c.args.e.hi, takes_le c.self.inside.rows.items c.args.e.lo c.args.e.hi c.self.invariant.light c.self.invariant.few)
