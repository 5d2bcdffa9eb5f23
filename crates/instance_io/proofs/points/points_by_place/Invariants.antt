use Rattle.std.proofs.Common.{◌≡◌, map, take, not}
use Rattle.serde_json.specs.View.{view}
use Rattle.text_defs.specs.Instances.{is_point, point_of}
use Rattle.instance_io.specs.Refusal.{coordinates}
use Rattle.json_text.proofs.Laws.{NoneBefore}
use Rattle.instance_io.proofs.points.points_by_place.Given as goal

abbrev pub invariant-loop-place : goal.invariant-loop-place
invariant-loop-place l =
    NoneBefore (λ d. not (is_point d)) (map view l.items) l.place
    × (map coordinates l.points.items ≡ map point_of (take l.place (map view l.items)))
