use Rattle.std.proofs.Common.{List, subst}
use Rattle.plane.specs.declared.coordinates.Point.{Point}
use Rattle.plane.specs.Geometry.{IsInner}
use Rattle.edit.proofs.marks.opens_without.Goals as goal

pub returns-then-is_outer-clause-met : goal.returns-then-is_outer-clause-met
returns-then-is_outer-clause-met c = λ f inner.
    absurd (c.is_outer.ensures c.if-is_outer.true (subst (λ (S : List Point). IsInner S c.args.star.now.centre) c.requires.points inner))

pub returns-then-misses_without-clause-opened : goal.returns-then-misses_without-clause-opened
returns-then-misses_without-clause-opened c = λ t. (c.is_inner.ensures.0 t, c.misses_without.ensures.missed.0 c.if-misses_without.true)
