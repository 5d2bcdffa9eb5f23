use Rattle.std.proofs.Common.{ℕ, sym, subst}
use Rattle.plane.specs.Geometry.{IsInner}
use Rattle.star.specs.Gaps.{MeetsWithout, MissesWithout}
use Rattle.edit.proofs.marks.opens_high.Goals as goal

pub returns-clause-opened : goal.returns-clause-opened
returns-clause-opened c = λ t.
    (let r = c.opens_without.ensures.opened t in (
      subst (IsInner c.args.points.now) c.requires.upper.1 r.0,
      subst (λ (q : ℕ). MissesWithout c.args.upper.now q) c.lo.ensures r.1,
    ))

pub returns-clause-met : goal.returns-clause-met
returns-clause-met c = λ f inner.
    subst (λ (q : ℕ). MeetsWithout c.args.upper.now q) c.lo.ensures
    (c.opens_without.ensures.met f (subst (IsInner c.args.points.now) (sym c.requires.upper.1) inner))
