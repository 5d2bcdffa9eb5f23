use Rattle.std.proofs.Common.{◌<◌, ◌^◌, unsigned_abs, arith, ◌∙◌}
use Rattle.plane.proofs.Wide.{sum_is, plain_product, scalar_is}
use Rattle.plane.proofs.kernel.scalar_of.Goals as goal

pub returns : goal.returns
returns c =
    let far : unsigned_abs c.product-across.result < 2 ^ 126 = omega (arith, c.product-across.ensures.size) in
    let near : unsigned_abs c.product-upward.result < 2 ^ 126 = omega (arith, c.product-upward.ensures.size) in
    sum_is c.product-across.result c.product-upward.result far near
    ∙ scalar_is c.args.p c.args.q c.args.r c.product-across.result c.product-upward.result
    (plain_product c.product-across.result c.step.result c.step-2.result c.args.q.x c.args.p.x c.args.r.x c.args.p.x (omega arith) (omega arith) (omega arith) (omega arith) (omega arith) (omega arith) c.step.ensures.step c.step-2.ensures.step c.product-across.ensures.product)
    (plain_product c.product-upward.result c.step-3.result c.step-4.result c.args.q.y c.args.p.y c.args.r.y c.args.p.y (omega arith) (omega arith) (omega arith) (omega arith) (omega arith) (omega arith) c.step-3.ensures.step c.step-4.ensures.step c.product-upward.ensures.product)
