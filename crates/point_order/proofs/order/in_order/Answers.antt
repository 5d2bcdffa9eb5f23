use Rattle.std.proofs.Common.{◌≡◌, ℕ, map, Vec, Global, ◌∙◌, ap}
use Rattle.std.proofs.lemmas.Result.{IfOk-weaker}
use Rattle.plane.specs.declared.coordinates.Point.{Point}
use Rattle.point_order.specs.Order.{IsSweepOrder}
use Rattle.point_order.proofs.Placed.{order_of_placed}
use Rattle.point_order.proofs.order.in_order.Goals as goal

pub returns-clause-order : goal.returns-clause-order
returns-clause-order c =
    IfOk-weaker c.indices.result (λ (v : Vec ℕ Global). v.items ≡ map (λ (e : Point × ℕ). e.1) c.deref.result.now) (λ (v : Vec ℕ Global). IsSweepOrder c.args.points.now v.items)
    (λ v h. order_of_placed c.args.points.now c.in_ok-placed.placed.items v.items (h ∙ ap (map (λ (e : Point × ℕ). e.1)) c.deref.ensures.value) c.in_ok-placed.ensures.placed)
    c.indices.ensures
