use Rattle.solver_top.proofs.LineCommands.{line_command_same}
use Rattle.solver_top.proofs.laws.one_command.Goals as goal

pub returns : goal.returns
returns c = line_command_same
