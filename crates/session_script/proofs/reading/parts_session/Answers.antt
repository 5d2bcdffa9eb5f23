use Rattle.std.proofs.Common.{map, length, subst}
use Rattle.serde_json.specs.View.{view}
use Rattle.session_script.proofs.Read.{commands_refused}
use Rattle.session_script.proofs.reading.parts_session.Goals as goal

pub returns-in-Err-commands_in : goal.returns-in-Err-commands_in
returns-in-Err-commands_in c =
    commands_refused c.args.bytes.now c.in-Ok.instance c.len.result (view c.args.instance.now) (map view c.args.items.now) c.in-Err-commands_in.fault
    c.requires c.in-Ok.ensures.answer c.len.ensures.accepted c.len.ensures.count c.in-Err-commands_in.ensures
