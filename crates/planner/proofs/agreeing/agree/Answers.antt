use Rattle.std.proofs.Common.{ℕ, get_or, arith, refl, subst, below_more}
use Rattle.std.proofs.lemmas.Bool.{false≢true}
use Rattle.star.specs.Stars.{IsStar}
use Rattle.edit.specs.declared.look.Look.{Look}
use Rattle.planner.specs.Agreeing.{AgreesAt}
use Rattle.planner.proofs.Agreed.{all_agree, each_agrees}
use Rattle.planner.proofs.agreeing.agree.Goals as goal

pub returns-then-not-agrees_at : goal.returns-then-not-agrees_at
returns-then-not-agrees_at c = (
  λ t. absurd (false≢true t),
  λ a. absurd (false≢true (c.if-not-agrees_at.ensures.agrees.1 (each_agrees c.args.points.now c.args.region.now c.loop-k.k c.look.result.now c.requires c.count-k-end.ensures.region.apart (omega (arith, c.count-k-end.ensures.count, c.loop-k-test.true)) c.look.ensures a))),
)

pub loop-k-preserved : goal.loop-k-preserved
loop-k-preserved c = λ j d h.
    below_more (λ (i : ℕ). (e : Look) → IsStar (get_or c.args.region.now i e).star × AgreesAt c.args.points.now c.args.region.now (get_or c.args.region.now i e).star) c.loop-k.k
    (λ i l e. c.loop-k.invariant i e l)
    (λ e. subst (λ (l : Look). IsStar l.star × AgreesAt c.args.points.now c.args.region.now l.star) (c.look.ensures e) (c.if-not-agrees_at.ensures.order, c.if-not-agrees_at.ensures.agrees.0 refl))
    j h d

pub returns : goal.returns
returns c = (λ t. all_agree c.args.points.now c.args.region.now c.requires (λ k d h. c.loop-k.invariant k d (omega (arith, c.count-k-end.ensures.count, c.loop-k-test.false, h))), λ t. refl)
