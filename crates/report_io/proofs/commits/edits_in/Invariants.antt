use Rattle.std.proofs.Common.{◌≡◌, map, take, length, Some}
use Rattle.serde_json.specs.View.{view}
use Rattle.text_defs.specs.Items.{all_of}
use Rattle.report_io.specs.Reading.{edit_of}
use Rattle.report_io.specs.Report.{edit_item}
use Rattle.report_io.proofs.commits.edits_in.Given as goal

abbrev pub invariant-loop-item : goal.invariant-loop-item
invariant-loop-item l =
    (all_of (edit_of l.n) (take l.item-index (map view l.items)) ≡ Some (map edit_item l.edits.items)) × (length l.edits.items ≡ l.item-index)
