use Rattle.partition_defs.proofs.laws.Flips.{flip_of_quad}
use Rattle.partition_defs.proofs.laws.other_diagonal.Goals as goal

pub returns : goal.returns
returns c = λ h. flip_of_quad c.args.points.now c.args.list.now c.requires c.args.a c.args.b c.args.c c.args.d h
