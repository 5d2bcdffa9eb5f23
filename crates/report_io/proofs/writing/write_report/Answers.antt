use Rattle.std.proofs.Common.{[], ◌++◌, ◌∙◌, ap}
use Rattle.text_defs.specs.Lines.{line_text}
use Rattle.json_text.proofs.Laws.{append-two}
use Rattle.report_io.specs.declared.report.Part.TheVariants.{Instance, Solution, Certificate, Journal, Summary}
use Rattle.report_io.specs.Report.{part_data}
use Rattle.report_io.proofs.Written.{five_lines_text}
use Rattle.report_io.proofs.writing.write_report.Goals as goal

pub returns : goal.returns
returns c =
    let r = c.args.report.now in
    append-two [] _ _ (line_text (part_data r Instance)) _ (c.in_ok-push_line.ensures ∙ ap (λ xs. xs ++ line_text (part_data r Instance)) c.new-text.ensures.items)
    (append-two _ _ _ (line_text (part_data r Solution)) _ c.in_ok-push_line-2.ensures
    (append-two _ _ _ (line_text (part_data r Certificate)) _ c.in_ok-push_line-3.ensures
    (append-two _ _ _ (line_text (part_data r Journal)) (line_text (part_data r Summary)) c.in_ok-push_line-4.ensures c.in_ok-push_line-5.ensures)))
    ∙ five_lines_text (part_data r Instance) (part_data r Solution) (part_data r Certificate) (part_data r Journal) (part_data r Summary)
