use Rattle.std.proofs.Common.{◌*◌, ◌≤◌, ◌∙◌, ap, arith}
use Rattle.std.proofs.Math.Nat.{mul-le-mul_left}
use Rattle.std.proofs.lemmas.Int.{ints}
use Rattle.cert_check.proofs.Overloads.{HasNumbers, kept_numbers, kept_small, is_over}
use Rattle.cert_check.proofs.overload.excess.Goals as goal

pub overflow_add-allowed : goal.overflow_add-allowed
overflow_add-allowed c =
    let m : c.args.q * c.from.result ≤ c.args.q * 1000 = mul-le-mul_left c.args.q (let h : c.from.result ≤ 1000 = omega (arith, c.from.ensures, c.of.ensures.within) in h) in
    omega (arith, m, c.of-taken.ensures, kept_small c.args.points.now c.args.sums.now c.args.takers.now c.args.e.lo c.args.e.hi c.requires.kept)

pub returns-clause-excess : goal.returns-clause-excess
returns-clause-excess c =
    let n : HasNumbers c.args.points.now c.args.costs.now c.args.q c.args.sums.now.rows c.args.e.lo c.args.e.hi (c.args.q * c.from.result) c.of-given.result c.of-taken.result =
    kept_numbers c.args.points.now c.args.costs.now c.args.q c.args.sums.now c.args.takers.now c.args.e.lo c.args.e.hi (c.args.q * c.from.result) c.of-given.result c.of-taken.result c.requires.kept
    (ap (λ n. c.args.q * n) (c.from.ensures ∙ c.of.ensures.cost)) c.of-given.ensures.gives c.of-taken.ensures in
    let o = is_over c.args.points.now c.args.costs.now c.args.q c.args.sums.now.rows c.args.e.lo c.args.e.hi (c.args.q * c.from.result) c.of-given.result c.of-taken.result n c.requires.kept.right c.args.e.ordered c.requires.end
    (c.in_ok-has.ensures.clear.0 c.if-not-branch.false) (omega (arith, c.if-given-allowed-2.false)) in
    (o.0, omega (arith, ints, o.1, c.of-given.ensures.small, c.of-taken.ensures, kept_small c.args.points.now c.args.sums.now c.args.takers.now c.args.e.lo c.args.e.hi c.requires.kept))
