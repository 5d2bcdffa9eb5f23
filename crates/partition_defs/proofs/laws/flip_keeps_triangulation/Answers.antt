use Rattle.partition_defs.proofs.laws.Flips.{triangulation_of_flip}
use Rattle.partition_defs.proofs.laws.flip_keeps_triangulation.Goals as goal

pub returns : goal.returns
returns c = λ h f. triangulation_of_flip c.args.points.now c.args.list.now c.args.flipped.now c.requires c.args.a c.args.b c.args.c c.args.d h f
