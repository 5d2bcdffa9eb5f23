use Rattle.std.proofs.Common.{None, ◌+◌, ◌*◌, ◌∙◌, length, arith}
use Rattle.cert_check.specs.Overloads.{IsFirstOverOf}
use Rattle.cert_check.proofs.Overloads.{first_of_strips, strips_go_on}
use Rattle.cert_check.proofs.overload.first_over.Goals as goal

pub returns-in-Some : goal.returns-in-Some
returns-in-Some c =
    let found = rw c.in-Some.is at c.in_ok-found.ensures.first in
    first_of_strips c.args.points.now c.args.costs.now c.args.q c.args.rows.now (c.loop-k.k * 32) (c.loop-k.k * 32 + 32) (length c.args.points.now) c.in-Some.over
    (rw c.in_ok-sums.ensures.rows at found) c.loop-k.invariant.1

pub loop-k-preserved : goal.loop-k-preserved
loop-k-preserved c =
    let found = rw c.in_default.is at c.in_ok-found.ensures.first in
    let none : IsFirstOverOf c.args.points.now c.args.costs.now c.args.q c.args.rows.now (c.loop-k.k * 32) (c.loop-k.k * 32 + 32) (length c.args.points.now) None = rw c.in_ok-sums.ensures.rows at found in (
      c.in_ok-found.ensures.points ∙ c.loop-k.invariant.0,
      λ i j ik ij jn. strips_go_on c.args.points.now c.args.costs.now c.args.q c.args.rows.now (c.loop-k.k * 32) (c.loop-k.k * 32 + 32) (length c.args.points.now) none c.loop-k.invariant.1 i j (omega arith) ij jn,
    )
