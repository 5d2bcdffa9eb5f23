use Rattle.std.proofs.Common.{subst}
use Rattle.std.proofs.lemmas.Result.{IfOk-weaker}
use Rattle.std.specs.Prelude.{IsTrue, ◌↔◌}
use Rattle.price_defs.specs.declared.row.Row.TheVariants.{Half, Three}
use Rattle.price_defs.specs.Rows.{IsRight, IsAlone}
use Rattle.price_defs.specs.Limits.{IsIndexed}
use Rattle.cert_check.proofs.Shapes.{half_right, three_right}
use Rattle.cert_check.proofs.shape.is_right_row.Goals as goal

pub returns-then-p-q-clause-right : goal.returns-then-p-q-clause-right
returns-then-p-q-clause-right c =
    let i : IsIndexed c.args.points.now (Half c.in-Half.p c.in-Half.q c.in-Half.w) = subst (IsIndexed c.args.points.now) c.in-Half.is c.requires.indexed in
    half_right c.args.points.now c.args.row c.in-Half.p c.in-Half.q c.in-Half.w _ c.in-Half.is c.requires.indexed c.if-p-q.true (c.requires.inner.each c.in-Half.p i.0)

pub returns-then-inner-p-clause-right : goal.returns-then-inner-p-clause-right
returns-then-inner-p-clause-right c =
    let i : IsIndexed c.args.points.now (Three c.in-Three.p c.in-Three.w) = subst (IsIndexed c.args.points.now) c.in-Three.is c.requires.indexed in
    IfOk-weaker c.is_noted_alone.result (λ b. IsTrue b ↔ IsAlone c.args.points.now c.in-Three.p) (λ b. IsTrue b ↔ IsRight c.args.points.now c.args.row)
    (λ b h. three_right c.args.points.now c.args.row c.in-Three.p c.in-Three.w b c.in-Three.is c.requires.indexed ((c.requires.inner.each c.in-Three.p i).0 c.if-inner-p.true) h)
    c.is_noted_alone.ensures.alone
