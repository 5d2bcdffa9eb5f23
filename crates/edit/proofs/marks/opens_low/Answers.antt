use Rattle.std.proofs.Common.{ℕ, sym, subst}
use Rattle.plane.specs.Geometry.{IsInner}
use Rattle.star.specs.Gaps.{MeetsWithout, MissesWithout}
use Rattle.edit.proofs.marks.opens_low.Goals as goal

pub returns-clause-opened : goal.returns-clause-opened
returns-clause-opened c = λ t.
    (let r = c.opens_without.ensures.opened t in (
      subst (IsInner c.args.points.now) c.requires.lower.1 r.0,
      subst (λ (q : ℕ). MissesWithout c.args.lower.now q) c.hi.ensures r.1,
    ))

pub returns-clause-met : goal.returns-clause-met
returns-clause-met c = λ f inner.
    subst (λ (q : ℕ). MeetsWithout c.args.lower.now q) c.hi.ensures
    (c.opens_without.ensures.met f (subst (IsInner c.args.points.now) (sym c.requires.lower.1) inner))
