use Rattle.std.proofs.Common.{arith, ◌+◌, ◌∙◌, ap}
use Rattle.price_defs.proofs.Steps.{takes_small, takes_step}
use Rattle.price_defs.proofs.plain.takes_of.Goals as goal
use Rattle.price_defs.proofs.plain.takes_of.Goals.{then-is_lessened, else-is_lessened}

pub overflow_add-sum : goal.overflow_add-sum
overflow_add-sum c =
    let h = takes_small c.args.rows.now c.loop-row.row-index c.row-item.result c.args.i c.args.j c.loop-row.sum c.is_lessened.result c.requires.light c.requires.few c.row-item.is c.loop-row-test.true c.is_lessened.ensures c.if-is_lessened.true c.loop-row.invariant in
    omega (arith, h, c.weight_of-sum.ensures)

pub loop-row-preserved : goal.loop-row-preserved
loop-row-preserved c =
    let s = takes_step c.args.rows.now c.loop-row.row-index c.row-item.result c.args.i c.args.j c.loop-row.sum c.is_lessened.result c.row-item.is c.loop-row-test.true c.is_lessened.ensures c.loop-row.invariant in
    elim c.if-is_lessened.branch [
      | then-is_lessened w ↦ s.0 w.if-is_lessened.true c.if-is_lessened.sum (w.sum-is ∙ ap (λ n. c.loop-row.sum + n) w.weight_of-sum.ensures)
      | else-is_lessened w ↦ w.sum-is ∙ s.1 w.if-is_lessened.false
    ]
