use Rattle.std.proofs.Common.{arith}
use Rattle.dual_prices.proofs.Tables.{tri_small}
use Rattle.dual_prices.proofs.loads.slot_of.Goals as goal

pub overflow_add-result : goal.overflow_add-result
overflow_add-result c = omega (arith, c.pairs_of.ensures, c.lo.type_inv, tri_small c.hi.result c.hi.type_inv)
