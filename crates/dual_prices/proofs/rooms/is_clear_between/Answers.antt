use Rattle.std.proofs.Common.{◌≡◌, ◌↔◌, sym, subst}
use Rattle.std.specs.Prelude.{IfSome}
use Rattle.plane.specs.Geometry.{IsClear}
use Rattle.plane.proofs.laws.Border.{clear_of_pair}
use Rattle.dual_prices.proofs.rooms.is_clear_between.Goals as goal

pub returns-in-Some : goal.returns-in-Some
returns-in-Some c =
    let lo = c.of-e.result.lo in let hi = c.of-e.result.hi in
    let h : IsClear c.args.points.now lo hi ↔ IsClear c.args.points.now c.args.p c.args.r = clear_of_pair c.args.points.now c.args.p c.args.r lo hi c.of-e.ensures.lo c.of-e.ensures.hi in
    let e : c.in-Some.set.now ≡ c.args.points.now = subst (λ o. IfSome o (λ set. set.now ≡ c.args.points.now)) c.in-Some.is c.requires.clear in
    (λ t. h.0 (subst (λ x. IsClear x lo hi) e (c.has.ensures.0 t)), λ k. c.has.ensures.1 (subst (λ x. IsClear x lo hi) (sym e) (h.1 k)))

pub returns-in-None : goal.returns-in-None
returns-in-None c =
    let h : IsClear c.args.points.now c.of-e.result.lo c.of-e.result.hi ↔ IsClear c.args.points.now c.args.p c.args.r = clear_of_pair c.args.points.now c.args.p c.args.r c.of-e.result.lo c.of-e.result.hi c.of-e.ensures.lo c.of-e.ensures.hi in
    (λ t. h.0 (c.is_clear.ensures.0 t), λ k. c.is_clear.ensures.1 (h.1 k))
