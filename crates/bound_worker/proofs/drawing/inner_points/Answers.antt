use Rattle.std.proofs.Common.{◌≡◌, ◌+◌, ℕ, Vec, Global, sym, ◌∙◌, ap, subst, arith}
use Rattle.std.proofs.lemmas.Bool.{false≢true}
use Rattle.dual_prices.specs.Floors.{IsInnerListBelow}
use Rattle.dual_prices.proofs.laws.Inner.{inner_more, inner_less}
use Rattle.bound_worker.proofs.drawing.inner_points.Goals as goal
use Rattle.bound_worker.proofs.drawing.inner_points.Goals.{then-is_inner+in_ok-push, else-is_inner}

pub loop-p-preserved : goal.loop-p-preserved
loop-p-preserved c = elim c.if-is_inner.branch [
  | then-is_inner+in_ok-push w ↦ subst (IsInnerListBelow c.args.points.now (c.loop-p.p + 1)) (sym (ap (λ (v : Vec ℕ Global). v.items) w.list-is ∙ w.in_ok-push.ensures.items))
      (inner_more c.args.points.now c.loop-p.p c.loop-p.list.items (c.is_inner.ensures.0 w.if-is_inner.true) c.loop-p.invariant)
  | else-is_inner w ↦ subst (IsInnerListBelow c.args.points.now (c.loop-p.p + 1)) (sym (ap (λ (v : Vec ℕ Global). v.items) w.list-is))
      (inner_less c.args.points.now c.loop-p.p c.loop-p.list.items (λ i. false≢true (sym w.if-is_inner.false ∙ c.is_inner.ensures.1 i)) c.loop-p.invariant)
]

pub returns : goal.returns
returns c =
    let e : c.loop-p.p ≡ c.len-p-end.result = omega arith in
    let b : IsInnerListBelow c.args.points.now c.len-p-end.result c.loop-p.list.items = subst (λ (n : ℕ). IsInnerListBelow c.args.points.now n c.loop-p.list.items) e c.loop-p.invariant in
    let d = subst (λ (n : ℕ). IsInnerListBelow c.args.points.now n c.loop-p.list.items) c.len-p-end.ensures.count b in
    record { ascending = d.ascending; exact = d.exact }
