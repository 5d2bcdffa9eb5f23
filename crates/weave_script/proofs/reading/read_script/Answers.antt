use Rattle.std.proofs.Common.{subst}
use Rattle.text_defs.specs.Reading.{json_reading}
use Rattle.json_text.specs.declared.reading.TextFault.{TextFault}
use Rattle.json_text.specs.Refusal.{RefusesText}
use Rattle.weave_script.proofs.Parts.{not_json}
use Rattle.weave_script.proofs.Read.{read_steps, read_few}
use Rattle.weave_script.proofs.reading.read_script.Goals as goal

pub returns-in-Ok-clause-steps : goal.returns-in-Ok-clause-steps
returns-in-Ok-clause-steps c = read_steps c.args.bytes.now c.script_of.result c.script_of.ensures

pub returns-in-Ok-clause-few : goal.returns-in-Ok-clause-few
returns-in-Ok-clause-few c = read_few c.args.bytes.now c.script_of.result c.script_of.ensures

pub returns-in-Err-NotJson-clause-answer : goal.returns-in-Err-NotJson-clause-answer
returns-in-Err-NotJson-clause-answer c =
    not_json c.args.bytes.now (subst (λ (f : TextFault). RefusesText f (json_reading c.args.bytes.now)) c.in-Err-NotJson.field-0-is c.in-Err-NotJson.ensures)
