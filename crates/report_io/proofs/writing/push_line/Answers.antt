use Rattle.std.proofs.Common.{◌∷◌, [], ◌++◌, ◌∙◌, ap, append_assoc}
use Rattle.serde_json.specs.Written.{compact_text}
use Rattle.report_io.specs.Report.{part_data}
use Rattle.report_io.proofs.writing.push_line.Goals as goal

pub returns : goal.returns
returns c =
    c.in_ok-push.ensures.items ∙ (ap (λ xs. xs ++ 10 ∷ []) c.in_ok-push_part.ensures
    ∙ append_assoc c.args.text.now.items (compact_text (part_data c.args.report.now c.args.part)) (10 ∷ []))
