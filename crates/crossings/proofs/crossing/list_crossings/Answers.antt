use Rattle.std.proofs.Common.{arith}
use Rattle.crossings.proofs.Firsts.{all_found}
use Rattle.crossings.proofs.crossing.list_crossings.Goals as goal

pub returns : goal.returns
returns c = all_found c.args.points.now c.args.list.now c.loop-a.a c.args.most c.loop-a.found.items (omega arith) c.loop-a.invariant
