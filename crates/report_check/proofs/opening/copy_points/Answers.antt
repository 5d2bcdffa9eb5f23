use Rattle.std.proofs.Common.{◌≡◌, List, length, ap, subst, sym, ◌∙◌, arith}
use Rattle.std.proofs.lemmas.Bool.{false≢true}
use Rattle.std.proofs.lemmas.List.{take_all}
use Rattle.plane.specs.declared.coordinates.Point.{Point}
use Rattle.plane.specs.Accepted.{AreAccepted}
use Rattle.report_check.proofs.opening.copy_points.Goals as goal

pub make-requires : goal.make-requires
make-requires c =
    let whole : c.loop-k.list.items ≡ c.args.points.now = c.loop-k.invariant ∙ take_all c.loop-k.k c.args.points.now (omega (arith, c.len-k-end.ensures.count)) in
    omega (arith, ap (λ (L : List Point). length L) whole, c.loop-k.list.ok.0, c.len-k-end.ensures.accepted.count.1)

pub unreachable-requires : goal.unreachable-requires
unreachable-requires c =
    let whole : c.loop-k.list.items ≡ c.args.points.now = c.loop-k.invariant ∙ take_all c.loop-k.k c.args.points.now (omega (arith, c.len-k-end.ensures.count)) in
    false≢true (c.in-Err.ensures.accepted.1 (subst AreAccepted (sym whole) c.len-k-end.ensures.accepted))
