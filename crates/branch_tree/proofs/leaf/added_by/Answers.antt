use Rattle.std.proofs.Common.{arith}
use Rattle.std.proofs.lemmas.List.Sums.{sum_by-take-le}
use Rattle.price_defs.specs.Loads.{added}
use Rattle.price_defs.proofs.laws.Values.{added_small, added_total}
use Rattle.branch_tree.proofs.Parts.{light_of, few_of}
use Rattle.branch_tree.proofs.leaf.added_by.Goals as goal

pub overflow_add-sum : goal.overflow_add-sum
overflow_add-sum c =
    let s = added_small c.args.rows.now c.loop-row.row-index c.row-item.result c.loop-row.sum (light_of c.args.rows.now c.requires.light) (few_of c.args.rows.now c.requires.light) c.loop-row-test.true c.row-item.is c.loop-row.invariant in
    omega (arith, s, c.added_of-sum.ensures)

pub returns-clause-small : goal.returns-clause-small
returns-clause-small c =
    omega (arith, sum_by-take-le added c.args.rows.now c.loop-row.row-index, added_total c.args.rows.now (light_of c.args.rows.now c.requires.light) (few_of c.args.rows.now c.requires.light), c.loop-row.invariant)
