use Rattle.std.proofs.Common.{◌↔◌}
use Rattle.std.specs.List.{Contains}
use Rattle.partition_defs.specs.Partition.{Joins}
use Rattle.tree_defs.proofs.laws.Overs.{joins_is_contains}
use Rattle.tree_defs.proofs.plain.has.Goals as goal

pub returns : goal.returns
returns c =
    let h : Joins c.args.list.now c.lo.result c.hi.result ↔ Contains c.args.list.now c.args.e = joins_is_contains c.args.list.now c.args.e c.lo.result c.hi.result c.lo.ensures c.hi.ensures in
    (λ t. h.0 (c.joins.ensures.0 t), λ k. c.joins.ensures.1 (h.1 k))
