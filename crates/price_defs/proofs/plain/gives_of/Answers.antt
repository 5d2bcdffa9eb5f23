use Rattle.std.proofs.Common.{arith, ◌+◌, ◌∙◌, ap}
use Rattle.price_defs.proofs.Steps.{gives_small, gives_step}
use Rattle.price_defs.proofs.plain.gives_of.Goals as goal
use Rattle.price_defs.proofs.plain.gives_of.Goals.{then-is_counted, else-is_counted}

pub overflow_add-sum : goal.overflow_add-sum
overflow_add-sum c =
    let h = gives_small c.args.points.now c.args.rows.now c.loop-row.row-index c.row-item.result c.args.i c.args.j c.loop-row.sum c.is_counted.result c.requires.light c.requires.few c.row-item.is c.loop-row-test.true c.is_counted.ensures c.if-is_counted.true c.loop-row.invariant in
    omega (arith, h, c.weight_of-sum.ensures)

pub loop-row-preserved : goal.loop-row-preserved
loop-row-preserved c =
    let s = gives_step c.args.points.now c.args.rows.now c.loop-row.row-index c.row-item.result c.args.i c.args.j c.loop-row.sum c.is_counted.result c.row-item.is c.loop-row-test.true c.is_counted.ensures c.loop-row.invariant in
    elim c.if-is_counted.branch [
      | then-is_counted w ↦ s.0 w.if-is_counted.true c.if-is_counted.sum (w.sum-is ∙ ap (λ n. c.loop-row.sum + n) w.weight_of-sum.ensures)
      | else-is_counted w ↦ w.sum-is ∙ s.1 w.if-is_counted.false
    ]
