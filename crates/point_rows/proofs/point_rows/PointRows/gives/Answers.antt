use Rattle.std.proofs.Common.{arith}
use Rattle.price_defs.proofs.laws.Values.{gives_le}
use Rattle.point_rows.proofs.laws.Parts.{gives_parts}
use Rattle.point_rows.proofs.point_rows.PointRows.gives.Goals as goal

pub overflow_add-result : goal.overflow_add-result
overflow_add-result c = omega (arith, c.gives_at.ensures.small, c.gives_at-2.ensures.small)

pub returns-clause-gives : goal.returns-clause-gives
returns-clause-gives c = omega (arith, c.gives_at.ensures.gives, c.gives_at-2.ensures.gives, gives_parts c.args.points.now c.args.self.now.rows c.args.i c.args.j c.requires.apart)

pub returns-clause-small : goal.returns-clause-small
returns-clause-small c =
    omega (
      arith,
      c.gives_at.ensures.gives,
      c.gives_at-2.ensures.gives,
      gives_parts c.args.points.now c.args.self.now.rows c.args.i c.args.j c.requires.apart,
      gives_le c.args.points.now c.args.self.now.rows c.args.i c.args.j c.rows-rows.ensures.light c.rows-rows.ensures.few,
    )
