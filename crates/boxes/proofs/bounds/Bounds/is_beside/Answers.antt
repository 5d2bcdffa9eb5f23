use Rattle.boxes.proofs.laws.Apart.{none_out_of_range, none_left, none_right}
use Rattle.boxes.proofs.bounds.Bounds.is_beside.Goals as goal

pub returns-then-is_out_of_range : goal.returns-then-is_out_of_range
returns-then-is_out_of_range c = λ t p h. none_out_of_range c.args.self.now p c.args.a c.args.b h (c.is_out_of_range.ensures.0 c.if-is_out_of_range.true)

pub returns-then-has_all_left : goal.returns-then-has_all_left
returns-then-has_all_left c = λ t p h. none_left c.args.a c.args.b p (c.has_all_left.ensures c.if-has_all_left.true p h)

pub returns : goal.returns
returns c = λ t p h. none_right c.args.a c.args.b p (c.has_all_left-2.ensures t p h)
