use Rattle.std.proofs.Common.{subst}
use Rattle.text_defs.specs.Reading.{json_reading}
use Rattle.json_text.specs.declared.reading.TextFault.{TextFault}
use Rattle.json_text.specs.Refusal.{RefusesText}
use Rattle.session_script.proofs.Parts.{not_json}
use Rattle.session_script.proofs.Read.{read_commands, read_few}
use Rattle.session_script.proofs.reading.read_session.Goals as goal

pub returns-in-Ok-clause-commands : goal.returns-in-Ok-clause-commands
returns-in-Ok-clause-commands c = read_commands c.args.bytes.now c.session_of.result c.session_of.ensures

pub returns-in-Ok-clause-few : goal.returns-in-Ok-clause-few
returns-in-Ok-clause-few c = read_few c.args.bytes.now c.session_of.result c.session_of.ensures

pub returns-in-Err-NotJson-clause-answer : goal.returns-in-Err-NotJson-clause-answer
returns-in-Err-NotJson-clause-answer c =
    not_json c.args.bytes.now (subst (λ (f : TextFault). RefusesText f (json_reading c.args.bytes.now)) c.in-Err-NotJson.field-0-is c.in-Err-NotJson.ensures)
