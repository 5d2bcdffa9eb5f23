use Rattle.std.proofs.Common.{refl, subst, sym, ℕ}
use Rattle.std.proofs.lemmas.Bool.{false≢true}
use Rattle.plane.specs.Geometry.{IsInner}
use Rattle.planner.proofs.Agreed.{met_there, met_inside}
use Rattle.planner.proofs.agreeing.meets_inside.Goals as goal

pub returns-then-not-misses_some : goal.returns-then-not-misses_some
returns-then-not-misses_some c = (λ t. met_there c.args.points.now c.args.star.now c.requires (c.if-not-misses_some.ensures.met refl), λ t. refl)

pub returns-then-is_inner : goal.returns-then-is_inner
returns-then-is_inner c = (
  λ t. absurd (false≢true t),
  λ met. absurd (met_inside c.args.points.now c.args.star.now c.requires (c.if-not-misses_some.ensures.missed.0 refl) (subst (λ (n : ℕ). IsInner c.args.points.now n) c.centre-centre.ensures.centre (c.if-is_inner.ensures.0 refl)) met),
)

pub returns : goal.returns
returns c = (
  λ t inner. absurd (false≢true (c.if-is_inner.ensures.1 (subst (λ (n : ℕ). IsInner c.args.points.now n) (sym c.centre-centre.ensures.centre) inner))),
  λ t. refl,
)
