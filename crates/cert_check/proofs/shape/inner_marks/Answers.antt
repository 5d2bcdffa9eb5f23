use Rattle.std.proofs.Common.{◌≡◌, length, ◌∙◌, arith}
use Rattle.cert_check.proofs.Shapes.{inner_more}
use Rattle.cert_check.proofs.shape.inner_marks.Goals as goal

pub loop-p-preserved : goal.loop-p-preserved
loop-p-preserved c =
    inner_more c.args.points.now c.loop-p.marks.items c.push.new.self.items c.loop-p.p c.is_inner.result c.in_ok-push.ensures.items c.is_inner.ensures c.loop-p.invariant

pub returns : goal.returns
returns c =
    let e : c.loop-p.p ≡ length c.args.points.now = omega (arith, c.loop-p-test.false, c.loop-p.auto.p-end, c.len-p-end.ensures.count) in
    record { count = c.loop-p.invariant.0 ∙ e; each = λ p l. c.loop-p.invariant.1 p (omega arith) }
