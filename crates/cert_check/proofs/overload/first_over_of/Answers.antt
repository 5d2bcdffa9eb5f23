use Rattle.std.proofs.Common.{None, ◌∙◌, ◌+◌, length, arith}
use Rattle.cert_check.specs.Overloads.{IsFirstOverFrom}
use Rattle.cert_check.proofs.Overloads.{first_in_strip, strip_goes_on}
use Rattle.cert_check.proofs.overload.first_over_of.Goals as goal

pub returns-in-Some-clause-first : goal.returns-in-Some-clause-first
returns-in-Some-clause-first c =
    first_in_strip c.args.points.now c.args.costs.now c.args.q c.args.sums.now.rows c.args.first (c.args.first + 32) c.loop-i.i (length c.args.points.now) c.in-Some.over (rw c.in-Some.is at c.in_ok-found.ensures.first) c.loop-i.invariant.1

pub loop-i-preserved : goal.loop-i-preserved
loop-i-preserved c =
    let none : IsFirstOverFrom c.args.points.now c.args.costs.now c.args.q c.args.sums.now.rows c.loop-i.i (length c.args.points.now) None = rw c.in_default.is at c.in_ok-found.ensures.first in (
      c.in_ok-found.ensures.points ∙ c.loop-i.invariant.0,
      strip_goes_on c.args.points.now c.args.costs.now c.args.q c.args.sums.now.rows c.args.first c.loop-i.i (length c.args.points.now) none c.loop-i.invariant.1,
    )
