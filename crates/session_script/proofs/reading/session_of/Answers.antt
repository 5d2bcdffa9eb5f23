use Rattle.std.proofs.Common.{sym}
use Rattle.serde_json.specs.View.{view}
use Rattle.session_script.proofs.Parts.{no_instance, no_commands, has_parts}
use Rattle.session_script.proofs.reading.session_of.Goals as goal

pub returns-in_default : goal.returns-in_default
returns-in_default c = no_instance c.args.bytes.now (view c.args.value.now) c.requires (sym c.in_default.ensures)

pub returns-in_default-array_at : goal.returns-in_default-array_at
returns-in_default-array_at c =
    no_commands c.args.bytes.now (view c.args.value.now) (view c.in-Some.instance.now) c.requires (sym c.in-Some.ensures) c.in_default-array_at.ensures

pub parts_session-requires : goal.parts_session-requires
parts_session-requires c =
    has_parts c.args.bytes.now (view c.args.value.now) (view c.in-Some.instance.now) c.in-Some-array_at.items.now c.requires (sym c.in-Some.ensures) c.in-Some-array_at.ensures
