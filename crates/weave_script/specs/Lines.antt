-- The lines that are printed of a script. (This project's own.)
use Rattle.std.specs.Prelude.{ℕ, List, ◌++◌, codes}
use Rattle.std.specs.List.{flat_map}
use Rattle.std.specs.Fmt.{decimal}
use Rattle.fault_texts.specs.Texts.{numbered, instance_fault_text}
use Rattle.journal_defs.specs.declared.edit.Why.{Why}
use Rattle.journal_defs.specs.declared.edit.Why.TheVariants.{NotThere, NotKept, NotSpare, Border, Opens, AlreadyThere, NotApex, Bent}
use Rattle.weave.specs.declared.step.StepAnswer.{StepAnswer}
use Rattle.weave.specs.declared.step.StepAnswer.TheVariants.{Won, Held, Commit, NotOwned, Illegal, Returned}
use Rattle.weave_script.specs.declared.script.ScriptFault.{ScriptFault}
use Rattle.weave_script.specs.declared.script.ScriptFault.TheVariants.{NotJson, NoInstance, NoSteps, Instance, TooManySteps, BadStep, NoMemory}

-- why an edit isn't legal: the word, and the number where it has one
abbrev pub why_text : Why → List ℕ
why_text NotThere = codes "NotThere"
why_text NotKept = codes "NotKept"
why_text NotSpare = codes "NotSpare"
why_text Border = codes "Border"
why_text (Opens v) = numbered (codes "Opens ") v
why_text AlreadyThere = codes "AlreadyThere"
why_text (NotApex v) = numbered (codes "NotApex ") v
why_text (Bent v) = numbered (codes "Bent ") v

-- the line of what a step is answered
abbrev pub answer_line : StepAnswer → List ℕ
answer_line Won = codes "won\n"
answer_line (Held owner) = codes "held " ++ (decimal owner ++ codes "\n")
answer_line (Commit number) = codes "commit " ++ (decimal number ++ codes "\n")
answer_line (NotOwned place) = codes "notowned " ++ (decimal place ++ codes "\n")
answer_line (Illegal at why) = codes "illegal " ++ (decimal at ++ (codes " " ++ (why_text why ++ codes "\n")))
answer_line Returned = codes "back\n"

abbrev pub answers_text : List StepAnswer → List ℕ
answers_text answers = flat_map answer_line answers

-- the last line
abbrev pub end_line : (commits segments : ℕ) → List ℕ
end_line commits segments = codes "end commits " ++ (decimal commits ++ (codes " segments " ++ (decimal segments ++ codes "\n")))

-- the fault of a text that is no script; want of memory is never printed
abbrev pub script_fault_text : ScriptFault → List ℕ
script_fault_text NotJson = codes "script NotJson"
script_fault_text NoInstance = codes "script NoInstance"
script_fault_text NoSteps = codes "script NoSteps"
script_fault_text (Instance fault) = codes "instance " ++ instance_fault_text fault
script_fault_text (TooManySteps count) = numbered (codes "script TooManySteps ") count
script_fault_text (BadStep place) = numbered (codes "script BadStep ") place
script_fault_text NoMemory = codes "NoMemory"

abbrev pub refused_line : ScriptFault → List ℕ
refused_line fault = codes "refused " ++ (script_fault_text fault ++ codes "\n")
