use Rattle.std.proofs.Common.{◌≡◌, ◌+◌, ◌-◌, ◌%◌, ℕ, set, sym, ◌∙◌, ap, subst, arith}
use Rattle.directions.specs.Opposites.{number, bucket, AreLinked}
use Rattle.directions.proofs.Found.{linked_more, linked_less}
use Rattle.directions.proofs.finding.link_all.Goals as goal

pub loop-left-preserved-then-left-p : goal.loop-left-preserved-then-left-p
loop-left-preserved-then-left-p c =
    let k = c.loop-left.left - 1 in
    let e : c.loop-left.left ≡ k + 1 = omega (arith, c.loop-left-test.true) in
    let b : c.line_key_of-bucket.result % 16384 ≡ bucket c.args.points.now c.args.p k = ap (λ n. n % 16384) c.line_key_of-bucket.ensures in (
      omega (arith, c.loop-left.invariant.0),
      linked_more c.args.points.now c.args.p k (c.line_key_of-bucket.result % 16384) c.loop-left.heads c.link.new.heads c.loop-left.next c.link.new.next (omega (arith, c.loop-left.invariant.0, c.loop-left-test.true)) c.if-left-p.true b
          c.link.ensures.heads c.link.ensures.next
          (subst (λ n. AreLinked c.args.points.now c.args.p n c.loop-left.heads c.loop-left.next) e c.loop-left.invariant.1),
    )

pub loop-left-preserved : goal.loop-left-preserved
loop-left-preserved c =
    let k = c.loop-left.left - 1 in
    let e : c.loop-left.left ≡ k + 1 = omega (arith, c.loop-left-test.true) in (
      omega (arith, c.loop-left.invariant.0),
      linked_less c.args.points.now c.args.p k c.loop-left.heads c.loop-left.next c.if-left-p.false (subst (λ n. AreLinked c.args.points.now c.args.p n c.loop-left.heads c.loop-left.next) e c.loop-left.invariant.1),
    )
