use Rattle.std.proofs.Common.{◌≡◌, map, take}
use Rattle.std.specs.List.{filter_map}
use Rattle.serde_json.specs.View.{view}
use Rattle.json_text.proofs.Laws.{NoneBefore}
use Rattle.weave_script.specs.Reading.{step_of}
use Rattle.weave_script.specs.Scripts.{step_item}
use Rattle.weave_script.proofs.StepLists.{is_no_step}
use Rattle.weave_script.proofs.steps.steps_of.Given as goal

abbrev pub invariant-loop-place : goal.invariant-loop-place
invariant-loop-place l =
    NoneBefore (is_no_step l.n) (map view l.items) l.place × (map step_item l.steps.items ≡ filter_map (step_of l.n) (take l.place (map view l.items)))
