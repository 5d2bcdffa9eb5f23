use Rattle.std.proofs.Common.{◌≡◌, ◌++◌, map, nat_lt}
use Rattle.serde_json.specs.Written.{items_text}
use Rattle.report_io.specs.Report.{row_item}
use Rattle.report_io.specs.Texts.{row_data}
use Rattle.json_text.proofs.Laws.{items_from}
use Rattle.report_io.specs.Answers.{list_text}
use Rattle.report_io.proofs.certificate_text.push_rows.Given as goal

abbrev pub invariant-loop-place : goal.invariant-loop-place
invariant-loop-place l =
    l.text.items ++ items_text (nat_lt 0 l.place) (items_from l.place (map row_data (map row_item l.rows))) ≡ l.initial.text.items ++ list_text (map row_data (map row_item l.rows))
