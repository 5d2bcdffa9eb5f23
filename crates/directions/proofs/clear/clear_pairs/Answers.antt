use Rattle.std.proofs.Common.{arith}
use Rattle.directions.proofs.Listing.{finished}
use Rattle.directions.proofs.clear.clear_pairs.Goals as goal

pub returns : goal.returns
returns c = finished c.args.points.now c.loop-i.i c.loop-i.list.items (omega arith) c.loop-i.invariant
