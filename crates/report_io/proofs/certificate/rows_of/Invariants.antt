use Rattle.std.proofs.Common.{◌≡◌, map, take}
use Rattle.std.specs.List.{filter_map}
use Rattle.serde_json.specs.View.{view}
use Rattle.json_text.proofs.Laws.{NoneBefore}
use Rattle.report_io.specs.Reading.{row_of}
use Rattle.report_io.specs.Report.{row_item}
use Rattle.report_io.proofs.Each.{gives_none}
use Rattle.report_io.proofs.certificate.rows_of.Given as goal

abbrev pub invariant-loop-place : goal.invariant-loop-place
invariant-loop-place l =
    NoneBefore (gives_none (row_of l.n)) (map view l.items) l.place × (map row_item l.rows.items ≡ filter_map (row_of l.n) (take l.place (map view l.items)))
