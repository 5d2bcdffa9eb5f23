use Rattle.std.proofs.Common.{◌≡◌, map, take, Some}
use Rattle.serde_json.specs.View.{view}
use Rattle.text_defs.specs.Items.{number_within, all_of}
use Rattle.report_io.specs.Reading.{most_32}
use Rattle.report_io.proofs.sums.numbers_of.Given as goal

abbrev pub invariant-loop-item : goal.invariant-loop-item
invariant-loop-item l =
    all_of (number_within 0 most_32) (take l.item-index (map view l.items)) ≡ Some l.numbers.items
