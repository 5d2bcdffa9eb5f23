use Rattle.std.proofs.Common.{◌≡◌, ◌++◌, map, nat_lt, false}
use Rattle.serde_json.specs.Written.{items_text}
use Rattle.text_defs.specs.Texts.{cost_data}
use Rattle.json_text.proofs.Laws.{items_from}
use Rattle.instance_io.specs.Refusal.{cost_item}
use Rattle.instance_io.proofs.writing.push_costs.Given as goal

abbrev pub invariant-loop-place : goal.invariant-loop-place
invariant-loop-place l =
    l.text.items ++ items_text (nat_lt 0 l.place) (items_from l.place (map cost_data (map cost_item l.list)))
    ≡ l.initial.text.items ++ items_text false (items_from 0 (map cost_data (map cost_item l.list)))
