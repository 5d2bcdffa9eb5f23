use Rattle.std.proofs.Common.{arith}
use Rattle.crossings.proofs.Firsts.{from_next, all_tried}
use Rattle.crossings.proofs.crossing.add_crossed.Goals as goal

pub loop-b-init : goal.loop-b-init
loop-b-init c = from_next c.args.points.now c.args.list.now c.args.a c.args.most c.args.found.now.items c.requires.so_far

pub returns : goal.returns
returns c = all_tried c.args.points.now c.args.list.now c.args.a c.loop-b.b c.args.most c.loop-b.found.items (omega arith) c.loop-b.invariant
