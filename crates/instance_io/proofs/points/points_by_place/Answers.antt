use Rattle.std.proofs.Common.{not, ap, ◌∙◌, arith}
use Rattle.text_defs.specs.Instances.{is_point}
use Rattle.instance_io.specs.Refusal.{coordinates}
use Rattle.std.proofs.Common.{map}
use Rattle.json_text.proofs.Laws.{none_before-next}
use Rattle.instance_io.proofs.Places.{lack_told, all_points, points_more, points_end}
use Rattle.instance_io.proofs.points.points_by_place.Goals as goal

pub returns-in_default-point_of : goal.returns-in_default-point_of
returns-in_default-point_of c =
    lack_told c.args.items.now c.loop-place.place c.index-items-place.result c.lack_of.result (omega arith) c.index-items-place.is c.loop-place.invariant.0 c.in_default-point_of.ensures c.lack_of.ensures

pub loop-place-preserved : goal.loop-place-preserved
loop-place-preserved c = (
  none_before-next (λ d. not (is_point d)) c.args.items.now c.loop-place.place c.index-items-place.result (omega arith) c.index-items-place.is c.loop-place.invariant.0 (ap not c.in-Some.ensures.0),
  ap (map coordinates) c.in-Ok-push.ensures.items ∙ points_more c.loop-place.points.items c.in-Some.point c.args.items.now c.loop-place.place c.index-items-place.result (omega arith) c.index-items-place.is c.loop-place.invariant.1 c.in-Some.ensures.1,
)

pub returns : goal.returns
returns c = (
  all_points c.args.items.now c.loop-place.place (omega arith) c.loop-place.invariant.0,
  points_end c.loop-place.points.items c.args.items.now c.loop-place.place (omega arith) c.loop-place.invariant.1,
)
