use Rattle.std.proofs.Common.{inr, ap, ◌∙◌}
use Rattle.solver_top.proofs.Results.{if_ok}
use Rattle.solver_top.proofs.LineCommands.{line_command_same, answer_to_same, answer_of_same}
use Rattle.solver_top.specs.Answers.{reads_input}
use Rattle.solver_top.proofs.running.answer.Goals as goal

pub returns-in-Ok-clause-answer : goal.returns-in-Ok-clause-answer
returns-in-Ok-clause-answer g c = λ xs told.
    if_ok c.command_answer.result _ _ (c.command_answer.ensures.answer xs told) (λ answer h. inr (c.in-Ok.command, c.in-Ok.ensures.ok, h))

pub returns-in-Ok-clause-alone : goal.returns-in-Ok-clause-alone
returns-in-Ok-clause-alone g c = λ command line idle.
    let same = line_command_same _ c.in-Ok.command command c.in-Ok.ensures.ok line in
    let (left_alone, told) = c.command_answer.ensures.alone (ap reads_input same ∙ idle) in
    (left_alone, if_ok c.command_answer.result _ _ told (λ answer h. answer_to_same _ _ _ _ _ same h))

pub returns-in-Ok-clause-command : goal.returns-in-Ok-clause-command
returns-in-Ok-clause-command g c = λ command xs line told.
    let same = line_command_same _ c.in-Ok.command command c.in-Ok.ensures.ok line in
    if_ok c.command_answer.result _ _ (c.command_answer.ensures.answer xs told) (λ answer h. answer_of_same _ _ _ _ _ _ same h)
