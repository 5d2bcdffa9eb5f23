use Rattle.std.proofs.Common.{◌∙◌}
use Rattle.report_answers.proofs.Rewinds.{wrong_so}
use Rattle.report_answers.proofs.moments.not_right.Goals as goal

pub returns : goal.returns
returns c =
    wrong_so c.args.k c.args.bytes.now c.args.report.now c.args.verdict c.of_line.result.told c.of_line.result.text.items (c.requires.gives, c.len-count.ensures.accepted) c.requires.few c.requires.wrong c.requires.verdict
    c.of_line.ensures.told (c.of_line.ensures.text ∙ c.in_ok-line.ensures)
