use Rattle.session_script.proofs.CommandLists.{many_answer}
use Rattle.session_script.proofs.commands.commands_in.Goals as goal

pub returns-then-items-gt-MOST_COMMANDS : goal.returns-then-items-gt-MOST_COMMANDS
returns-then-items-gt-MOST_COMMANDS c = many_answer c.args.n c.args.items.now c.too_many_commands.result c.if-items-gt-MOST_COMMANDS.true c.too_many_commands.ensures
