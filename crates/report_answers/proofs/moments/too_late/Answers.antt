use Rattle.std.proofs.Common.{List, length, ◌∙◌, ap}
use Rattle.journal_defs.specs.declared.commit.Commit.{Commit}
use Rattle.report_answers.specs.Lines.{too_late_line}
use Rattle.report_answers.proofs.Rewinds.{late_so}
use Rattle.report_answers.proofs.moments.too_late.Goals as goal

pub returns : goal.returns
returns c =
    late_so c.args.k c.args.bytes.now c.args.report.now c.of_line.result.told c.of_line.result.text.items (c.requires.gives, c.len-count.ensures.accepted) c.requires.few c.of_line.ensures.told
    (c.of_line.ensures.text ∙ c.in_ok-line.ensures ∙ ap (λ (J : List Commit). too_late_line (length J)) c.as_slice.ensures)
