use Rattle.std.proofs.Common.{◌≢◌, IsTrue, sym, subst}
use Rattle.price_defs.specs.declared.row.Row.{Row}
use Rattle.price_defs.specs.declared.row.Row.TheVariants.{Half, Three}
use Rattle.price_defs.specs.Rows.{IsRight}
use Rattle.price_defs.specs.Limits.{IsIndexed}
use Rattle.price_defs.proofs.plain.is_right.Goals as goal

pub returns-then-p-q : goal.returns-then-p-q
returns-then-p-q c =
    let h : IsIndexed c.args.points.now (Half c.in-Half.p c.in-Half.q c.in-Half.w) = subst (IsIndexed c.args.points.now) c.in-Half.is c.requires in
    let ne : c.in-Half.p ≢ c.in-Half.q = c.if-p-q.true in
    subst (λ (row : Row). (IsTrue c.is_inner.result → IsRight c.args.points.now row) × (IsRight c.args.points.now row → IsTrue c.is_inner.result)) (sym c.in-Half.is)
    (λ t. (h.0, h.1, (λ e. ne (sym e)), c.is_inner.ensures.0 t), λ r. c.is_inner.ensures.1 r.3)

pub returns-then-is_inner : goal.returns-then-is_inner
returns-then-is_inner c =
    let h : IsIndexed c.args.points.now (Three c.in-Three.p c.in-Three.w) = subst (IsIndexed c.args.points.now) c.in-Three.is c.requires in
    subst (λ (row : Row). (IsTrue c.is_alone.result → IsRight c.args.points.now row) × (IsRight c.args.points.now row → IsTrue c.is_alone.result)) (sym c.in-Three.is)
    (λ t. (h, c.is_inner-in-Three.ensures.0 c.if-is_inner.true, c.is_alone.ensures.0 t), λ r. c.is_alone.ensures.1 r.2)
