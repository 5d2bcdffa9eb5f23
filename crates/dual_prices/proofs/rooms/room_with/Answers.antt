use Rattle.std.proofs.Common.{◌≡◌, ◌*◌, ◌+◌, ◌∙◌, ap₂}
use Rattle.cost_defs.specs.Costs.{cost}
use Rattle.price_defs.specs.Loads.{takes}
use Rattle.dual_prices.proofs.laws.Rooms.{cost_of_pair, takes_of_pair, room_is, none_left}
use Rattle.dual_prices.proofs.rooms.room_with.Goals as goal

pub returns-then-given-allowed : goal.returns-then-given-allowed
returns-then-given-allowed c =
    let e : c.args.q * c.from.result + c.takes.result ≡ c.args.q * cost c.args.costs.now c.args.p c.args.r + takes c.args.kept.now.rows c.args.p c.args.r =
    ap₂ (λ m n. c.args.q * m + n) (c.from.ensures ∙ c.of.ensures.cost ∙ cost_of_pair c.args.costs.now c.of-e.result c.args.p c.args.r c.of-e.ensures.lo c.of-e.ensures.hi)
    (c.takes.ensures.takes ∙ takes_of_pair c.args.kept.now.rows c.of-e.result c.args.p c.args.r c.of-e.ensures.lo c.of-e.ensures.hi) in (
      c.if-r-p.false,
      c.is_counted.ensures.0 c.if-not-is_counted.false,
      room_is c.args.points.now c.args.costs.now c.args.q c.args.kept.now.rows c.args.p c.args.r (c.args.q * c.from.result + c.takes.result) c.gives-given.result e c.gives-given.ensures.gives c.if-given-allowed.true,
    )

pub returns-else-given-allowed : goal.returns-else-given-allowed
returns-else-given-allowed c =
    let e : c.args.q * c.from.result + c.takes.result ≡ c.args.q * cost c.args.costs.now c.args.p c.args.r + takes c.args.kept.now.rows c.args.p c.args.r =
    ap₂ (λ m n. c.args.q * m + n) (c.from.ensures ∙ c.of.ensures.cost ∙ cost_of_pair c.args.costs.now c.of-e.result c.args.p c.args.r c.of-e.ensures.lo c.of-e.ensures.hi)
    (c.takes.ensures.takes ∙ takes_of_pair c.args.kept.now.rows c.of-e.result c.args.p c.args.r c.of-e.ensures.lo c.of-e.ensures.hi) in
    none_left c.args.points.now c.args.costs.now c.args.q c.args.kept.now.rows c.args.row c.args.p c.args.r (c.args.q * c.from.result + c.takes.result) c.gives-given.result c.requires.valid c.requires.right c.requires.p_in c.requires.r_in
    e c.gives-given.ensures.gives c.if-given-allowed.false
