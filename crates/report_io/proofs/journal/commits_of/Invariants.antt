use Rattle.std.proofs.Common.{◌≡◌, map, take}
use Rattle.std.specs.List.{filter_map}
use Rattle.serde_json.specs.View.{view}
use Rattle.json_text.proofs.Laws.{NoneBefore}
use Rattle.report_io.specs.Reading.{commit_of}
use Rattle.report_io.specs.Report.{commit_item}
use Rattle.report_io.proofs.Each.{gives_none}
use Rattle.report_io.proofs.journal.commits_of.Given as goal

abbrev pub invariant-loop-place : goal.invariant-loop-place
invariant-loop-place l =
    NoneBefore (gives_none (commit_of l.n)) (map view l.items) l.place × (map commit_item l.commits.items ≡ filter_map (commit_of l.n) (take l.place (map view l.items)))
