use Rattle.std.proofs.Common.{map, length, subst}
use Rattle.serde_json.specs.View.{view}
use Rattle.weave_script.proofs.Read.{steps_refused}
use Rattle.weave_script.proofs.reading.parts_script.Goals as goal

pub returns-in-Err-steps_in : goal.returns-in-Err-steps_in
returns-in-Err-steps_in c =
    steps_refused c.args.bytes.now c.in-Ok.instance c.len.result (view c.args.instance.now) (map view c.args.items.now) c.in-Err-steps_in.fault
    c.requires c.in-Ok.ensures.answer c.len.ensures.accepted c.len.ensures.count c.in-Err-steps_in.ensures
