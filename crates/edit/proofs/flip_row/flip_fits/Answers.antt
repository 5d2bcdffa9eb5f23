use Rattle.edit.proofs.Rows.{HasShown, apexes_refuse, sides_decide}
use Rattle.edit.proofs.flip_row.flip_fits.Goals as goal

pub returns-in-Err : goal.returns-in-Err
returns-in-Err c =
    let shown : HasShown c.args.points.now c.args.lower.now c.args.upper.now c.args.from c.near_apex-near.result c.far_apex-far.result = record {
      low_star = c.near_apex-near.ensures.order;
      high_star = c.far_apex-far.ensures.order;
      near_shown = c.near_apex-near.ensures.apex;
      far_shown = c.far_apex-far.ensures.apex;
    } in
    apexes_refuse (Unit {0}) c.args.points.now c.args.lower.now c.args.upper.now c.args.fresh.now c.args.from c.args.to c.near_apex-near.result c.far_apex-far.result c.in-Err.why shown c.in_ok-is_fresh.ensures c.in-Err.ensures

pub returns-in-Some-Some : goal.returns-in-Some-Some
returns-in-Some-Some c =
    let shown : HasShown c.args.points.now c.args.lower.now c.args.upper.now c.args.from c.near_apex-near.result c.far_apex-far.result = record {
      low_star = c.near_apex-near.ensures.order;
      high_star = c.far_apex-far.ensures.order;
      near_shown = c.near_apex-near.ensures.apex;
      far_shown = c.far_apex-far.ensures.apex;
    } in
    sides_decide c.args.points.now c.args.lower.now c.args.upper.now c.args.fresh.now c.args.from c.args.to c.near_apex-near.result c.far_apex-far.result c.in-Some-Some.k c.in-Some-Some.l c.are_on_sides.result
    shown c.in_ok-is_fresh.ensures c.in-Some-Some.is-0 c.in-Some-Some.is-1 c.in-Ok.ensures.0 c.in-Ok.ensures.1 c.are_on_sides.ensures
