use Rattle.std.proofs.Common.{◌≡◌, ◌+◌, length, sym, ◌∙◌, ap, subst, arith}
use Rattle.cert_check.specs.BorderCosts.{AreSteps}
use Rattle.cert_check.proofs.BorderCosts.{steps_more, steps_less, steps_all}
use Rattle.cert_check.proofs.border_cost.border_cost.Goals as goal
use Rattle.cert_check.proofs.border_cost.border_cost.Goals.{in-Some, in_default}

pub loop-v-preserved : goal.loop-v-preserved
loop-v-preserved c = elim c.match-border_after.branch [
  | in-Some b ↦
      subst (AreSteps c.args.points.now c.args.costs.now (c.loop-v.v + 1)) (sym (b.sum-is ∙ ap (λ n. c.loop-v.sum + n) b.from-sum.ensures))
      (steps_more c.args.points.now c.args.costs.now c.loop-v.v b.in-Some.w c.loop-v.sum b.of.result b.of-e.result c.len-count.ensures.accepted (omega (arith, c.loop-v-test.true)) b.in-Some.ensures
      b.of-e.ensures.lo b.of-e.ensures.hi b.of.ensures.cost b.of.ensures.within c.loop-v.invariant)
  | in_default b ↦
      subst (AreSteps c.args.points.now c.args.costs.now (c.loop-v.v + 1)) (sym b.sum-is)
      (steps_less c.args.points.now c.args.costs.now c.loop-v.v c.loop-v.sum b.in_default.ensures c.loop-v.invariant)
]

pub returns-clause-cost : goal.returns-clause-cost
returns-clause-cost c =
    steps_all c.args.points.now c.args.costs.now c.loop-v.sum
    (subst (λ n. AreSteps c.args.points.now c.args.costs.now n c.loop-v.sum) (let e : c.loop-v.v ≡ length c.args.points.now = omega (arith, c.loop-v-test.false, c.loop-v.auto.v-end, c.len-count.ensures.count) in e) c.loop-v.invariant)
