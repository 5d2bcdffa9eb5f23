use Rattle.std.proofs.Common.{◌≡◌, ℕ, Option, length, subst, arith}
use Rattle.dual_prices.specs.Floors.{IsLeastCostBelow}
use Rattle.dual_prices.proofs.Floors.{some_clear, least_small}
use Rattle.dual_prices.proofs.floor.least_cost.Goals as goal

pub unreachable-requires : goal.unreachable-requires
unreachable-requires c =
    let e : c.loop-r.r ≡ length c.args.points.now = omega (arith, c.loop-r-test.false, c.loop-r.auto.r-end, c.len-count.ensures.count) in
    some_clear c.args.points.now c.args.costs.now c.args.p c.len-count.ensures.accepted c.requires.p_in
    (subst (λ (o : Option ℕ). IsLeastCostBelow c.args.points.now c.args.costs.now c.args.p (length c.args.points.now) o) c.in-None.is
    (subst (λ n. IsLeastCostBelow c.args.points.now c.args.costs.now c.args.p n c.loop-r.least) e c.loop-r.invariant))

pub returns-clause-small : goal.returns-clause-small
returns-clause-small c =
    let e : c.loop-r.r ≡ length c.args.points.now = omega (arith, c.loop-r-test.false, c.loop-r.auto.r-end, c.len-count.ensures.count) in
    least_small c.args.points.now c.args.costs.now c.args.p c.in-Some.m c.list-listed.ensures.costs.within
    (subst (λ (o : Option ℕ). IsLeastCostBelow c.args.points.now c.args.costs.now c.args.p (length c.args.points.now) o) c.in-Some.is
    (subst (λ n. IsLeastCostBelow c.args.points.now c.args.costs.now c.args.p n c.loop-r.least) e c.loop-r.invariant))
