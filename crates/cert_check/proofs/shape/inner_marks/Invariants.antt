use Rattle.std.proofs.Common.{◌≡◌, ℕ, ◌<◌, ◌↔◌, length, false, IsTrue}
use Rattle.std.specs.Prelude.{slice_index_or}
use Rattle.plane.specs.Geometry.{IsInner}
use Rattle.cert_check.proofs.shape.inner_marks.Given as goal

abbrev pub invariant-loop-p : goal.invariant-loop-p
invariant-loop-p l = (length l.marks.items ≡ l.p) × ((p : ℕ) → p < l.p → IsTrue (slice_index_or l.marks.items p false) ↔ IsInner l.points p)
