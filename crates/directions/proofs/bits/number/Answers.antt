use Rattle.std.proofs.Common.{◌≡◌, ◌+◌, ◌∙◌, ap, arith}
use Rattle.directions.specs.Bits.{count_of_pairs}
use Rattle.directions.proofs.Tables.{few_pairs, number_is}
use Rattle.directions.proofs.bits.number.Goals as goal

pub overflow_add-result : goal.overflow_add-result
overflow_add-result c = omega (arith, c.count_of.ensures, c.lo.type_inv, few_pairs c.hi.result (omega arith))

pub returns : goal.returns
returns c =
    let e : c.from.result ≡ c.args.e.lo = omega arith in
    ap (λ x. c.count_of.result + x) e ∙ number_is c.args.e.lo c.args.e.hi c.count_of.result (c.count_of.ensures ∙ ap count_of_pairs c.hi.ensures)
