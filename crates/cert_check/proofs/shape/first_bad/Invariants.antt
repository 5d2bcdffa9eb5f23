use Rattle.std.proofs.Common.{◌≡◌, ℕ, ◌<◌}
use Rattle.std.specs.Prelude.{slice_index_or}
use Rattle.price_defs.specs.declared.row.Row.{Row}
use Rattle.price_defs.specs.Rows.{IsRight}
use Rattle.cert_check.specs.Shapes.{AreAloneMarks}
use Rattle.cert_check.proofs.shape.first_bad.Given as goal

abbrev pub invariant-loop-k : goal.invariant-loop-k
invariant-loop-k l = AreAloneMarks l.points l.alone.items × (l.opposites ≡ l.points) × ((k : ℕ) (d : Row) → k < l.k → IsRight l.points (slice_index_or l.rows k d))
