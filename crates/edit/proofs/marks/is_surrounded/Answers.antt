use Rattle.std.proofs.Common.{ℕ, subst}
use Rattle.plane.specs.Geometry.{IsInner}
use Rattle.edit.proofs.marks.is_surrounded.Goals as goal

pub returns-in-Some-Some : goal.returns-in-Some-Some
returns-in-Some-Some c = λ t. subst (λ (v : ℕ). IsInner c.args.points.now v) c.centre.ensures.centre (c.is_strictly_inside.ensures t)
