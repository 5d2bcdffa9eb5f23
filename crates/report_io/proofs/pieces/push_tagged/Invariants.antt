use Rattle.std.proofs.Common.{◌≡◌, ◌++◌, map, true}
use Rattle.serde_json.specs.Written.{items_text}
use Rattle.text_defs.specs.Texts.{index_data}
use Rattle.json_text.proofs.Laws.{items_from}
use Rattle.report_io.specs.Answers.{numbers_text}
use Rattle.report_io.proofs.pieces.push_tagged.Given as goal

abbrev pub invariant-loop-number : goal.invariant-loop-number
invariant-loop-number l =
    l.text.items ++ items_text true (items_from l.number-index (map index_data l.numbers)) ≡ l.initial.text.items ++ numbers_text l.numbers
