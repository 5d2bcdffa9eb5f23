use Rattle.partition_defs.proofs.laws.Flips.{apex_is_one}
use Rattle.partition_defs.proofs.laws.apex_is_one.Goals as goal

pub returns : goal.returns
returns c = λ x y. apex_is_one c.args.points.now c.args.list.now c.requires c.args.p c.args.q c.args.r c.args.s x y
