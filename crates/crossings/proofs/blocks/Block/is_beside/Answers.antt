use Rattle.crossings.proofs.Apart.{out_of_range}
use Rattle.crossings.proofs.blocks.Block.is_beside.Goals as goal

pub returns-then-is_out_of_range : goal.returns-then-is_out_of_range
returns-then-is_out_of_range c = λ t z h. out_of_range c.args.self.now c.args.a c.args.b z (c.is_out_of_range.ensures.0 c.if-is_out_of_range.true) h
