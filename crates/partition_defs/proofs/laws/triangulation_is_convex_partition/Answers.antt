use Rattle.partition_defs.proofs.laws.Needs.{triangulation_partition}
use Rattle.partition_defs.proofs.laws.triangulation_is_convex_partition.Goals as goal

pub returns : goal.returns
returns c = λ T tri. triangulation_partition c.args.points.now T c.len-count.ensures.accepted tri
