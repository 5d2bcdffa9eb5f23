use Rattle.std.proofs.Common.{◌≡◌, map, take}
use Rattle.std.specs.List.{filter_map}
use Rattle.serde_json.specs.View.{view}
use Rattle.json_text.proofs.Laws.{NoneBefore}
use Rattle.session_script.specs.Reading.{command_of}
use Rattle.session_script.specs.Sessions.{command_item}
use Rattle.session_script.proofs.CommandLists.{is_no_command}
use Rattle.session_script.proofs.commands.commands_of.Given as goal

abbrev pub invariant-loop-place : goal.invariant-loop-place
invariant-loop-place l =
    NoneBefore (is_no_command l.n) (map view l.items) l.place × (map command_item l.commands.items ≡ filter_map (command_of l.n) (take l.place (map view l.items)))
