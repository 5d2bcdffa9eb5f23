use Rattle.std.proofs.Common.{◌≡◌, ℕ, ◌+◌, ◌*◌, ◌≤◌, List, length, ◌∙◌, ap, arith}
use Rattle.plane.specs.declared.segment.Pair.{Pair}
use Rattle.plane.specs.Accepted.{AreAccepted}
use Rattle.cost_defs.specs.Costs.{AreCosts, total}
use Rattle.cost_defs.proofs.Laws.{total-le}
use Rattle.lower_bounds.specs.Bounds.{IsBase}
use Rattle.lower_bounds.proofs.bounding.border_cost.Goals as goal

pub returns : goal.returns
returns c =
    let border : List Pair = c.in_ok-border.border.items in
    let costs : AreCosts c.args.costs.now = c.list-list.ensures.costs in
    let accepted : AreAccepted c.args.points.now = c.len-count.ensures.accepted in
    let few : length c.args.start.now.all + length border + 3 ≡ 3 * length c.args.points.now = c.requires.start.count border c.in_ok-border.ensures in
    let many : length c.args.points.now ≤ 5000 = accepted.count.1 in
    let sum : total c.args.costs.now border ≤ length border * 1000 = total-le c.args.costs.now border costs.within in
    let is : c.total-sum.result ≡ total c.args.costs.now border = c.total-sum.ensures ∙ ap (total c.args.costs.now) c.deref-2.ensures.value in
    record { pairs = border; list = c.in_ok-border.ensures; is = is; small = omega (arith, few, many, sum, is) }
