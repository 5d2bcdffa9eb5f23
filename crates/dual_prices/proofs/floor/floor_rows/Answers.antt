use Rattle.std.proofs.Common.{◌≡◌, ◌+◌, ◌<◌, length, false, arith, Vec, Global, sym, ◌∙◌, ap, subst}
use Rattle.std.proofs.lemmas.Bool.{false≢true}
use Rattle.std.proofs.lemmas.List.{get_or_default}
use Rattle.border.specs.Inner.{mark}
use Rattle.price_defs.specs.declared.row.Row.{Row}
use Rattle.dual_prices.specs.Floors.{AreFloorRowsBelow}
use Rattle.dual_prices.proofs.Floors.{floor_none, floor_more, floor_less}
use Rattle.dual_prices.proofs.floor.floor_rows.Goals as goal
use Rattle.dual_prices.proofs.floor.floor_rows.Goals.{then-inner+in_ok-push_rows, else-inner}

pub loop-p-init : goal.loop-p-init
loop-p-init c = (subst (AreFloorRowsBelow c.args.points.now c.args.costs.now 0) (sym c.new-rows.ensures.items) (floor_none c.args.points.now c.args.costs.now), c.in_ok-opposites.ensures)

pub loop-p-preserved : goal.loop-p-preserved
loop-p-preserved c =
    let M = c.in_ok-marks.marks.items in
    let inside : c.loop-p.p < length M = omega (arith, c.loop-p-test.true, c.len-p-end.ensures.count, c.in_ok-marks.ensures.count) in
    let is : c.index-inner.result.now ≡ mark M c.loop-p.p = c.index-inner.ensures ∙ get_or_default M c.loop-p.p c.index-inner.result.now false inside in
    let exact = c.in_ok-marks.ensures.each c.loop-p.p (omega (arith, c.loop-p-test.true, c.len-p-end.ensures.count)) in
    elim c.if-inner.branch [
      | then-inner+in_ok-push_rows w ↦ (
        subst (AreFloorRowsBelow c.args.points.now c.args.costs.now (c.loop-p.p + 1)) (sym (ap (λ (v : Vec Row Global). v.items) w.rows-is))
            (floor_more c.args.points.now c.args.costs.now c.loop-p.p c.loop-p.rows.items _ (exact.0 (sym is ∙ w.if-inner.true)) c.loop-p.invariant.0 w.in_ok-push_rows.ensures.rows),
        w.opposites-is ∙ w.in_ok-push_rows.ensures.points ∙ c.loop-p.invariant.1,
      )
      | else-inner w ↦ (
        subst (AreFloorRowsBelow c.args.points.now c.args.costs.now (c.loop-p.p + 1)) (sym (ap (λ (v : Vec Row Global). v.items) w.rows-is))
            (floor_less c.args.points.now c.args.costs.now c.loop-p.p c.loop-p.rows.items (λ i. false≢true (sym w.if-inner.false ∙ is ∙ exact.1 i)) c.loop-p.invariant.0),
        w.opposites-is ∙ c.loop-p.invariant.1,
      )
    ]
