use Rattle.std.proofs.Common.{◌≡◌, ◌++◌, map, nat_lt}
use Rattle.serde_json.specs.Written.{items_text}
use Rattle.instance_io.specs.Refusal.{ends}
use Rattle.report_io.specs.Texts.{start_data}
use Rattle.json_text.proofs.Laws.{items_from}
use Rattle.report_io.specs.Answers.{list_text}
use Rattle.report_io.proofs.journal_text.push_start.Given as goal

abbrev pub invariant-loop-place : goal.invariant-loop-place
invariant-loop-place l =
    l.text.items ++ items_text (nat_lt 0 l.place) (items_from l.place (map start_data (map ends l.start))) ≡ l.initial.text.items ++ list_text (map start_data (map ends l.start))
