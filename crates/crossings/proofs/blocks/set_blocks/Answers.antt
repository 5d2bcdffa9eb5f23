use Rattle.std.proofs.Common.{arith}
use Rattle.crossings.proofs.Placed.{near_segments}
use Rattle.crossings.proofs.blocks.set_blocks.Goals as goal

pub bound_blocks-requires-clause-near : goal.bound_blocks-requires-clause-near
bound_blocks-requires-clause-near c = near_segments c.args.points.now c.args.list.now c.set_segments.new.segments c.set_segments.ensures

pub bound_blocks-requires-2-clause-near : goal.bound_blocks-requires-2-clause-near
bound_blocks-requires-2-clause-near c = near_segments c.args.points.now c.args.list.now c.set_segments.new.segments c.set_segments.ensures

pub returns : goal.returns
returns c = record {
  segments = c.set_segments.ensures;
  room = omega arith;
  boxes = c.bound_blocks.ensures;
  group_room = omega arith;
  group_boxes = c.bound_blocks-2.ensures;
}
