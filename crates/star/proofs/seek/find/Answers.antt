use Rattle.std.proofs.Common.{◌≡◌, arith, subst}
use Rattle.star.specs.Stars.{entry}
use Rattle.star.proofs.Halving.{seat_of}
use Rattle.star.proofs.seek.find.Goals as goal
use Rattle.star.proofs.seek.find.Goals.{else-k-list-via-then-k-list+else-list-k, else-k-list-via-else-k-list}

pub returns-else-k-list : goal.returns-else-k-list
returns-else-k-list c = λ j hj at.
    let e : j ≡ c.seat-k.result = seat_of c.args.points.now c.args.centre c.args.list.now c.args.q c.seat-k.result j c.requires c.seat-k.ensures hj at in
    elim c.else-k-list.branch [
      | else-k-list-via-then-k-list+else-list-k w ↦ w.if-list-k.false (subst (λ i. (entry c.args.list.now i).0 ≡ c.args.q) e at)
      | else-k-list-via-else-k-list w ↦ omega arith
    ]
