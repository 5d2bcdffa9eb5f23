use Rattle.std.proofs.Common.{◌++◌, ◌∙◌, ap}
use Rattle.text_defs.specs.Texts.{instance_text}
use Rattle.report_io.proofs.writing.push_instance.Goals as goal

pub returns : goal.returns
unfolding instance_text
returns c = c.in_ok-extend_from_slice.ensures.items ∙ ap (λ xs. c.args.text.now.items ++ xs) (c.deref.ensures.value ∙ c.in_ok-line.ensures)
