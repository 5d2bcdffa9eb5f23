use Rattle.boxes.proofs.laws.Apart.{none_crosses_back}
use Rattle.crossings.proofs.blocks.Block.has_none_left.Goals as goal

pub returns-then-has_none_right : goal.returns-then-has_none_right
returns-then-has_none_right c = λ t z h.
    none_crosses_back c.args.a c.args.b z.from z.to (c.has_none_right.ensures c.if-has_none_right.true z.from h.0) (c.has_none_right-then-has_none_right.ensures t z.to h.1)
