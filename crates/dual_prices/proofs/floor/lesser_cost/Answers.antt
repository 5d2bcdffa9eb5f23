use Rattle.std.proofs.Common.{◌≡◌, ◌+◌, sym, ◌∙◌, subst, arith}
use Rattle.std.proofs.lemmas.Bool.{false≢true}
use Rattle.plane.proofs.laws.Border.{clear_of_pair}
use Rattle.dual_prices.specs.Floors.{IsLeastCostBelow}
use Rattle.dual_prices.proofs.laws.Rooms.{not_below, below, cost_of_pair}
use Rattle.dual_prices.proofs.Floors.{cost_taken, cost_kept, cost_passed}
use Rattle.cost_defs.specs.Costs.{cost}
use Rattle.dual_prices.proofs.floor.lesser_cost.Goals as goal

pub returns-then-not-is_below : goal.returns-then-not-is_below
returns-then-not-is_below c =
    let m = not_below c.from-cost.result c.args.least c.is_below.result c.is_below.ensures c.if-not-is_below.true in
    let e : c.from-cost.result ≡ cost c.args.costs.now c.args.p c.args.r = c.from-cost.ensures ∙ c.of.ensures.cost ∙ cost_of_pair c.args.costs.now c.of-e.result c.args.p c.args.r c.of-e.ensures.lo c.of-e.ensures.hi in
    subst (IsLeastCostBelow c.args.points.now c.args.costs.now c.args.p (c.args.r + 1)) (sym m.1)
    (cost_kept c.args.points.now c.args.costs.now c.args.p c.args.r m.0 (omega (arith, m.2, e)) (subst (IsLeastCostBelow c.args.points.now c.args.costs.now c.args.p c.args.r) m.1 c.requires.least))

pub returns-then-is_clear : goal.returns-then-is_clear
returns-then-is_clear c =
    let e : c.from-cost.result ≡ cost c.args.costs.now c.args.p c.args.r = c.from-cost.ensures ∙ c.of.ensures.cost ∙ cost_of_pair c.args.costs.now c.of-e.result c.args.p c.args.r c.of-e.ensures.lo c.of-e.ensures.hi in
    cost_taken c.args.points.now c.args.costs.now c.args.p c.args.r c.from-cost.result c.args.least c.requires.r_in c.if-r-p.false
    ((clear_of_pair c.args.points.now c.args.p c.args.r c.of-e.result.lo c.of-e.result.hi c.of-e.ensures.lo c.of-e.ensures.hi).0 (c.is_clear.ensures.0 c.if-is_clear.true)) (sym e)
    (below c.from-cost.result c.args.least c.is_below.result c.is_below.ensures c.if-not-is_below.false) c.requires.least

pub returns-else-is_clear : goal.returns-else-is_clear
returns-else-is_clear c =
    cost_passed c.args.points.now c.args.costs.now c.args.p c.args.r c.args.least
    (λ ne clear. false≢true (sym c.if-is_clear.false ∙ c.is_clear.ensures.1 ((clear_of_pair c.args.points.now c.args.p c.args.r c.of-e.result.lo c.of-e.result.hi c.of-e.ensures.lo c.of-e.ensures.hi).1 clear))) c.requires.least
