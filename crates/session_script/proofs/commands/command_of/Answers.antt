use Rattle.serde_json.specs.View.{view}
use Rattle.session_script.proofs.CommandLists.{command_of-other}
use Rattle.session_script.proofs.commands.command_of.Goals as goal

pub returns-then-items-ne2 : goal.returns-then-items-ne2
returns-then-items-ne2 c = command_of-other c.args.n (view c.args.item.now) c.in_ok-items.items.now c.in_ok-items.ensures c.if-items-eq1.false c.if-items-ne2.true
