use Rattle.std.proofs.Common.{ℕ, ◌↔◌, IsTrue, subst}
use Rattle.plane.specs.Geometry.{IsInner}
use Rattle.edit.proofs.marks.is_inner.Goals as goal

pub returns-else-is_surrounded : goal.returns-else-is_surrounded
returns-else-is_surrounded c = subst (λ (v : ℕ). IsTrue c.is_inner.result ↔ IsInner c.args.points.now v) c.centre.ensures.centre c.is_inner.ensures
