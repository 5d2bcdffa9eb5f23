use Rattle.std.proofs.Common.{arith}
use Rattle.std.proofs.lemmas.List.Sums.{sum_by-take-le}
use Rattle.price_defs.specs.Loads.{lost}
use Rattle.price_defs.proofs.laws.Values.{lost_small}
use Rattle.branch_tree.proofs.Parts.{light_of, few_of, lost_total}
use Rattle.branch_tree.proofs.leaf.lost_by.Goals as goal

pub overflow_add-sum : goal.overflow_add-sum
overflow_add-sum c =
    let s = lost_small c.args.rows.now c.loop-row.row-index c.row-item.result c.loop-row.sum (light_of c.args.rows.now c.requires.light) (few_of c.args.rows.now c.requires.light) c.loop-row-test.true c.row-item.is c.loop-row.invariant in
    omega (arith, s, c.lost_of-sum.ensures)

pub returns-clause-small : goal.returns-clause-small
returns-clause-small c = omega (arith, sum_by-take-le lost c.args.rows.now c.loop-row.row-index, lost_total c.args.rows.now c.requires.light, c.loop-row.invariant)
