use Rattle.std.proofs.Common.{arith}
use Rattle.cp_judge.proofs.Placed.{near_placed, blocks_placed}
use Rattle.cp_judge.proofs.blocks.set_blocks.Goals as goal

pub bound_blocks-requires-clause-near : goal.bound_blocks-requires-clause-near
bound_blocks-requires-clause-near c = near_placed c.args.points.now c.copy_points.new.places c.arrange.new.places (omega arith) c.copy_points.ensures c.arrange.ensures c.len-count.ensures.accepted.near

pub bound_blocks-requires-2-clause-near : goal.bound_blocks-requires-2-clause-near
bound_blocks-requires-2-clause-near c = near_placed c.args.points.now c.copy_points.new.places c.arrange.new.places (omega arith) c.copy_points.ensures c.arrange.ensures c.len-count.ensures.accepted.near

pub returns : goal.returns
returns c =
    blocks_placed c.args.points.now c.copy_points.new.places c.arrange.new.places c.bound_blocks.new.bounds c.bound_blocks-2.new.bounds (omega arith) c.copy_points.ensures c.arrange.ensures c.len-count.ensures.accepted.near
    (omega (arith, c.len-count.ensures.accepted.count.1)) (omega (arith, c.len-count.ensures.accepted.count.1)) (omega arith) (omega arith) c.bound_blocks.ensures c.bound_blocks-2.ensures
