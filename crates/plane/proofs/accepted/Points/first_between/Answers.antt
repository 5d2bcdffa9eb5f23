use Rattle.std.proofs.Common.{below_more}
use Rattle.plane.specs.Geometry.{LiesBetween}
use Rattle.plane.proofs.Boxed.{in_box}
use Rattle.plane.proofs.accepted.Points.first_between.Goals as goal
use Rattle.plane.proofs.accepted.Points.first_between.Goals.{else-has-via-then-has+else-is_found_between, else-has-via-else-has}

pub loop-k-preserved : goal.loop-k-preserved
loop-k-preserved c = below_more _ _ c.loop-k.invariant (λ on.
    let here : LiesBetween c.at-p.result c.at-from.result c.at-to.result = rw (c.at-p.ensures.point, c.at-from.ensures.point, c.at-to.ensures.point, c.lo.ensures, c.hi.ensures) on in
    elim c.else-has.branch [
      | else-has-via-then-has+else-is_found_between w ↦ (let t = w.is_found_between.ensures.1 here in let f = w.if-is_found_between.false in cc)
      | else-has-via-else-has w ↦ (let t = c.has.ensures.1 (in_box c.of-bounds.result c.at-p.result c.at-from.result c.at-to.result c.of-bounds.ensures here) in let f = w.if-has.false in cc)
    ])
