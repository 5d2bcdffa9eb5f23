use Rattle.std.proofs.lemmas.List.Sums.{sum_by-take-le}
use Rattle.std.proofs.Common.{arith}
use Rattle.price_defs.specs.Loads.{added}
use Rattle.price_defs.proofs.laws.Values.{added_small, lost_small, added_total, ceil_small}
use Rattle.price_defs.proofs.plain.value_of.Goals as goal

pub overflow_add-plus : goal.overflow_add-plus
overflow_add-plus c =
    let s = added_small c.args.rows.now c.loop-row.row-index c.row-item.result c.loop-row.plus c.requires.light c.requires.few c.loop-row-test.true c.row-item.is c.loop-row.invariant.0 in
    omega (arith, s, c.added_of-plus.ensures)

pub overflow_add-minus : goal.overflow_add-minus
overflow_add-minus c =
    let s = lost_small c.args.rows.now c.loop-row.row-index c.row-item.result c.loop-row.minus c.requires.light c.requires.few c.loop-row-test.true c.row-item.is c.loop-row.invariant.1 in
    omega (arith, s, c.lost_of-minus.ensures)

pub overflow_add-result : goal.overflow_add-result
overflow_add-result c =
    let t = sum_by-take-le added c.args.rows.now c.loop-row.row-index in
    let s = added_total c.args.rows.now c.requires.light c.requires.few in
    let d = ceil_small c.saturating_sub.result c.args.q c.requires.divisor in
    omega (arith, t, s, d, c.loop-row.invariant.0, c.saturating_sub.ensures, c.div_ceil.ensures)
