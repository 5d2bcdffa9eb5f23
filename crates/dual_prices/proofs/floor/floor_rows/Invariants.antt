use Rattle.std.proofs.Common.{◌≡◌}
use Rattle.dual_prices.specs.Floors.{AreFloorRowsBelow}
use Rattle.dual_prices.proofs.floor.floor_rows.Given as goal

abbrev pub invariant-loop-p : goal.invariant-loop-p
invariant-loop-p l = AreFloorRowsBelow l.points l.costs l.p l.rows.items × (l.opposites ≡ l.points)
