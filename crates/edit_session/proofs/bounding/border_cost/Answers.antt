use Rattle.std.proofs.Common.{◌≡◌, ℕ, ◌+◌, ◌≤◌, ◌∙◌, ap, subst, arith}
use Rattle.cost_defs.specs.Costs.{cost}
use Rattle.edit_session.proofs.Bordered.{there_at, step_border, step_inside, sum_small, sum_all}
use Rattle.edit_session.proofs.Many.{few_segments}
use Rattle.edit_session.proofs.bounding.border_cost.Goals as goal
use Rattle.edit_session.proofs.bounding.border_cost.Goals.{then-is_border, else-is_border}

pub is_border-requires : goal.is_border-requires
is_border-requires c = c.requires.triangulation.within c.e-item.result (there_at c.args.pairs.now c.loop-e.e-index c.e-item.result c.loop-e-test.true c.e-item.is)

pub overflow_add-sum : goal.overflow_add-sum
overflow_add-sum c =
    let few = few_segments c.args.points.now c.args.pairs.now c.len-count.ensures.accepted c.requires.ascending c.requires.triangulation in
    let small = sum_small c.args.points.now c.args.costs.now c.args.pairs.now c.loop-e.e-index c.loop-e.sum few c.loop-e.invariant in
    let low = c.of.ensures.within in
    omega (arith, small, low, c.from-sum.ensures)

pub loop-e-preserved : goal.loop-e-preserved
loop-e-preserved c =
    let e = c.e-item.result in
    elim c.if-is_border.branch [
      | then-is_border w ↦
          let low : cost c.args.costs.now e.lo e.hi ≤ 1000 = subst (λ (n : ℕ). n ≤ 1000) w.of.ensures.cost w.of.ensures.within in
          let more : w.from-sum.result ≡ cost c.args.costs.now e.lo e.hi = w.from-sum.ensures ∙ w.of.ensures.cost in
          let border = c.is_border.ensures.0 w.if-is_border.true in
          step_border c.args.points.now c.args.costs.now c.args.pairs.now c.loop-e.e-index e c.loop-e.sum c.if-is_border.sum c.loop-e-test.true c.e-item.is c.requires.ascending low c.loop-e.invariant
          border (w.sum-is ∙ ap (λ (n : ℕ). c.loop-e.sum + n) more)
      | else-is_border w ↦
          step_inside c.args.points.now c.args.costs.now c.args.pairs.now c.loop-e.e-index e c.loop-e.sum c.if-is_border.sum c.loop-e-test.true c.e-item.is c.loop-e.invariant
          (λ border. (let t = c.is_border.ensures.1 border in let f = w.if-is_border.false in cc)) w.sum-is
    ]

pub returns-clause-cost : goal.returns-clause-cost
returns-clause-cost c = sum_all c.args.points.now c.args.costs.now c.args.pairs.now c.loop-e.e-index c.loop-e.sum c.loop-e-test.false c.requires.triangulation c.loop-e.invariant

pub returns-clause-small : goal.returns-clause-small
returns-clause-small c =
    let few = few_segments c.args.points.now c.args.pairs.now c.len-count.ensures.accepted c.requires.ascending c.requires.triangulation in
    sum_small c.args.points.now c.args.costs.now c.args.pairs.now c.loop-e.e-index c.loop-e.sum few c.loop-e.invariant
