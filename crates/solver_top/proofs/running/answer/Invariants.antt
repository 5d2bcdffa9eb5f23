use Rattle.solver_top.proofs.running.answer.Given as goal

abbrev pub ghosts-command_answer : goal.ghosts-command_answer
ghosts-command_answer g a = record { name = a.blank.name; parts = a.blank.parts }
