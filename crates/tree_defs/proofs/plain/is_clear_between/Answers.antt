use Rattle.std.proofs.Common.{◌↔◌}
use Rattle.plane.specs.Geometry.{IsClear}
use Rattle.plane.proofs.laws.Border.{clear_of_pair}
use Rattle.tree_defs.proofs.plain.is_clear_between.Goals as goal

pub returns : goal.returns
returns c =
    let h : IsClear c.args.points.now c.of.result.lo c.of.result.hi ↔ IsClear c.args.points.now c.args.p c.args.r = clear_of_pair c.args.points.now c.args.p c.args.r c.of.result.lo c.of.result.hi c.of.ensures.lo c.of.ensures.hi in
    (λ t. h.0 (c.is_clear.ensures.0 t), λ k. c.is_clear.ensures.1 (h.1 k))
