use Rattle.std.proofs.Common.{arith}
use Rattle.directions.proofs.Listing.{from_next, all_tried}
use Rattle.directions.proofs.clear.add_clear_from.Goals as goal

pub loop-j-init : goal.loop-j-init
loop-j-init c = from_next c.args.set.now c.args.i c.args.list.now.items c.requires.so_far

pub returns : goal.returns
returns c = all_tried c.args.set.now c.args.i c.loop-j.j c.loop-j.list.items (omega arith) c.loop-j.invariant
