use Rattle.std.proofs.Common.{◌≡◌, vec_len, ℕ, ◌<◌, slice_index_or}
use Rattle.plane.specs.declared.coordinates.Point.{Point}
use Rattle.plane.specs.Geometry.{point}
use Rattle.point_order.proofs.order.with_indices.Given as goal

abbrev pub invariant-loop-i : goal.invariant-loop-i
invariant-loop-i l = (vec_len l.placed ≡ l.i) × ((k : ℕ) (d : Point × ℕ) → k < l.i → slice_index_or l.placed.items k d ≡ (point l.points k, k))
