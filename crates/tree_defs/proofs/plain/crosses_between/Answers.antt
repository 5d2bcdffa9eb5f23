use Rattle.std.proofs.Common.{◌↔◌}
use Rattle.tree_defs.specs.Leaves.{CrossesSome}
use Rattle.tree_defs.proofs.laws.Overs.{cross_of_min_max}
use Rattle.tree_defs.proofs.plain.crosses_between.Goals as goal

pub returns : goal.returns
returns c =
    let h : CrossesSome c.args.points.now c.args.list.now c.of.result.lo c.of.result.hi ↔ CrossesSome c.args.points.now c.args.list.now c.args.p c.args.r =
    cross_of_min_max c.args.points.now c.args.list.now c.args.p c.args.r c.of.result.lo c.of.result.hi c.of.ensures.lo c.of.ensures.hi in
    (λ t. h.0 (c.crosses_some.ensures.0 t), λ k. c.crosses_some.ensures.1 (h.1 k))
