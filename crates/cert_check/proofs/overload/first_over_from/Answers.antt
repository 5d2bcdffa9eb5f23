use Rattle.std.proofs.Common.{None, ◌∙◌, arith}
use Rattle.cert_check.specs.Overloads.{IsExcess}
use Rattle.cert_check.proofs.Overloads.{none_from_more}
use Rattle.cert_check.proofs.overload.first_over_from.Goals as goal

pub loop-j-preserved : goal.loop-j-preserved
loop-j-preserved c =
    let none : IsExcess c.args.points.now c.args.costs.now c.args.q c.args.sums.now.rows c.of-pair.result.lo c.of-pair.result.hi None = rw c.in_default.is at c.in_ok-found.ensures.excess in (
      c.in_ok-found.ensures.points ∙ c.loop-j.invariant.0,
      none_from_more c.args.points.now c.args.costs.now c.args.q c.args.sums.now.rows c.args.i c.loop-j.j c.of-pair.result (omega (arith, c.loop-j.auto.j)) c.of-pair.ensures.lo c.of-pair.ensures.hi none c.loop-j.invariant.1,
    )
