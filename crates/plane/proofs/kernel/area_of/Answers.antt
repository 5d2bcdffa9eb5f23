use Rattle.std.proofs.Common.{◌<◌, ◌^◌, unsigned_abs, arith, ◌∙◌}
use Rattle.plane.proofs.Wide.{difference_fits, difference_is, plain_product, area_is}
use Rattle.plane.proofs.kernel.area_of.Goals as goal

pub overflow_sub-result : goal.overflow_sub-result
overflow_sub-result c = difference_fits c.product-rising.result c.product-falling.result (omega (arith, c.product-rising.ensures.size)) (omega (arith, c.product-falling.ensures.size))

pub returns : goal.returns
returns c =
    let far : unsigned_abs c.product-rising.result < 2 ^ 126 = omega (arith, c.product-rising.ensures.size) in
    let near : unsigned_abs c.product-falling.result < 2 ^ 126 = omega (arith, c.product-falling.ensures.size) in
    difference_is c.product-rising.result c.product-falling.result far near
    ∙ area_is c.args.p c.args.q c.args.r c.product-rising.result c.product-falling.result
    (plain_product c.product-rising.result c.step.result c.step-2.result c.args.q.x c.args.p.x c.args.r.y c.args.p.y (omega arith) (omega arith) (omega arith) (omega arith) (omega arith) (omega arith) c.step.ensures.step c.step-2.ensures.step c.product-rising.ensures.product)
    (plain_product c.product-falling.result c.step-3.result c.step-4.result c.args.q.y c.args.p.y c.args.r.x c.args.p.x (omega arith) (omega arith) (omega arith) (omega arith) (omega arith) (omega arith) c.step-3.ensures.step c.step-4.ensures.step c.product-falling.ensures.product)
