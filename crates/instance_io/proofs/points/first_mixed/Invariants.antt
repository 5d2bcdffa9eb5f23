use Rattle.std.proofs.Common.{map}
use Rattle.serde_json.specs.View.{view}
use Rattle.text_defs.specs.Instances.{has_index, is_indexed, differs}
use Rattle.json_text.proofs.Laws.{NoneBefore}
use Rattle.instance_io.proofs.points.first_mixed.Given as goal

abbrev pub invariant-loop-place : goal.invariant-loop-place
invariant-loop-place l = NoneBefore (λ d. differs (is_indexed (map view l.items)) (has_index d)) (map view l.items) l.place
