use Rattle.std.proofs.Common.{ap, ◌∙◌, arith, map, inr}
use Rattle.serde_json.specs.View.{view}
use Rattle.json_text.proofs.Laws.{none_before-next}
use Rattle.session_script.specs.Sessions.{command_item}
use Rattle.session_script.proofs.CommandLists.{is_no_command, bad_command, is_command, one_more, all_commands}
use Rattle.session_script.proofs.commands.commands_of.Goals as goal

pub returns-in_default-command_of : goal.returns-in_default-command_of
returns-in_default-command_of c =
    inr (
      tt,
      bad_command c.args.n c.args.items.now c.loop-place.place c.index-items-place.result c.requires (omega arith) c.index-items-place.is c.loop-place.invariant.0 c.in_default-command_of.ensures,
    )

pub loop-place-preserved : goal.loop-place-preserved
loop-place-preserved c = (
  none_before-next (is_no_command c.args.n) c.args.items.now c.loop-place.place c.index-items-place.result (omega arith) c.index-items-place.is c.loop-place.invariant.0 (is_command c.args.n (view c.index-items-place.result) c.in-Some.command c.in-Some.ensures),
  ap (map command_item) c.in-Ok-push.ensures.items ∙ one_more c.args.n c.loop-place.commands.items c.in-Some.command c.args.items.now c.loop-place.place c.index-items-place.result (omega arith) c.index-items-place.is c.loop-place.invariant.1 c.in-Some.ensures,
)

pub returns : goal.returns
returns c = all_commands c.args.n c.loop-place.commands.items c.args.items.now c.loop-place.place c.requires (omega arith) c.loop-place.invariant.0 c.loop-place.invariant.1
