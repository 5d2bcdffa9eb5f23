use Rattle.std.proofs.Common.{◌≡◌, ◌≤◌, length}
use Rattle.vertex_claims.specs.Holding.{AreFitting}
use Rattle.vertex_claims.specs.Resting.{IsLaying}
use Rattle.vertex_claims.proofs.making.lay_all.Given as goal

abbrev pub invariant-loop-cell : goal.invariant-loop-cell
invariant-loop-cell g l = (l.seat.table_id ≡ l.fn.seat.table_id) × IsLaying l.top.key (length l.cells.items) l.seat.me × AreFitting g.C.Held.fits l.top.key.root.value l.cells.items × (length l.cells.items ≤ l.top.table_id.words)

abbrev pub decreases-loop-cell : goal.decreases-loop-cell
decreases-loop-cell g l = length l.cells.items
