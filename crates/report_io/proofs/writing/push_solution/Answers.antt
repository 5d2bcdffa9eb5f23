use Rattle.std.proofs.Common.{◌++◌, ◌∙◌, ap}
use Rattle.text_defs.specs.Texts.{solution_text}
use Rattle.report_io.proofs.writing.push_solution.Goals as goal

pub returns : goal.returns
unfolding solution_text
returns c = c.in_ok-extend_from_slice.ensures.items ∙ ap (λ xs. c.args.text.now.items ++ xs) (c.deref.ensures.value ∙ c.in_ok-line.ensures)
