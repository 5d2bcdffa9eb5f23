use Rattle.dual_prices.specs.Floors.{IsInnerListBelow}
use Rattle.bound_worker.proofs.drawing.inner_points.Given as goal

abbrev pub invariant-loop-p : goal.invariant-loop-p
invariant-loop-p l = IsInnerListBelow l.points l.p l.list.items
