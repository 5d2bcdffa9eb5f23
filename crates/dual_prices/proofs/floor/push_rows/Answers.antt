use Rattle.std.proofs.Common.{ℕ, Option, length, subst}
use Rattle.plane.specs.First.{IsFirstPairOrNone}
use Rattle.plane.specs.Geometry.{IsBetween}
use Rattle.dual_prices.proofs.Floors.{three_rows}
use Rattle.dual_prices.proofs.floor.push_rows.Goals as goal

pub returns-in_ok-push-in-None-clause-rows : goal.returns-in_ok-push-in-None-clause-rows
returns-in_ok-push-in-None-clause-rows c =
    three_rows c.args.points.now c.args.costs.now c.args.p c.least_at-w.result _ _ c.least_at-w.ensures.least c.least_at-w.ensures.small
    (subst (λ (o : Option (ℕ × ℕ)). IsFirstPairOrNone (λ i j. IsBetween c.args.points.now c.args.p i j) (length c.args.points.now) o) c.in-None.is c.in_ok-q.ensures.first)
    c.in_ok-push-in-None.ensures.items
