use Rattle.partition_defs.proofs.laws.Flips.{quad_of_flip, flip_inside}
use Rattle.partition_defs.proofs.laws.flip_joins_apexes.Goals as goal

pub returns-clause-apexes : goal.returns-clause-apexes
returns-clause-apexes c = λ h. quad_of_flip c.args.points.now c.args.list.now c.requires c.args.a c.args.b c.args.c c.args.d h

pub returns-clause-inside : goal.returns-clause-inside
returns-clause-inside c = λ h. flip_inside c.args.points.now c.args.list.now c.requires c.args.a c.args.b c.args.c c.args.d h
