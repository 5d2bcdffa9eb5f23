-- What the parts of a script are read as, or their first fault. (This project's own.)
use Rattle.std.specs.Prelude.{ℕ, List, [], ◌∷◌, if◌then◌else◌, Option, None, option_map, option_and_then, Result, Ok, codes}
use Rattle.serde_json.specs.Data.{Data}
use Rattle.serde_json.specs.Find.{get}
use Rattle.text_defs.specs.Reading.{json_reading}
use Rattle.text_defs.specs.Steps.{◌>>=◌, or_fault}
use Rattle.text_defs.specs.Fields.{list_of, array_at}
use Rattle.text_defs.specs.Items.{number_within, is_tag, array_list, each_or_fault, unless_many}
use Rattle.report_io.specs.Parts.{EditItem}
use Rattle.report_io.specs.Reading.{edits_of}
use Rattle.weave_script.specs.declared.script.ScriptFault.{ScriptFault}
use Rattle.weave_script.specs.declared.script.ScriptFault.TheVariants.{NotJson, NoInstance, NoSteps, TooManySteps, BadStep}

-- ---- a step: its tag, its caller, and a place or edits

pub data StepItem : Type 0 where
  taken : (caller place : ℕ) → StepItem
  appended : (caller : ℕ) → List EditItem → StepItem
  returned : (caller place : ℕ) → StepItem

-- the place of one of n vertices, or the journal's, n
abbrev pub place : ℕ → Data → Option ℕ
place n = number_within 0 n

abbrev pub tagged : ℕ → Data → ℕ → Data → Option StepItem
tagged n tag caller last =
    if is_tag (codes "take") tag then option_map (taken caller) (place n last)
    else (if is_tag (codes "append") tag then option_map (appended caller) (edits_of n last)
    else (if is_tag (codes "back") tag then option_map (returned caller) (place n last) else None))

abbrev pub most_callers : ℕ
most_callers = 16

abbrev pub step_in : ℕ → List Data → Option StepItem
step_in n [] = None
step_in n (tag ∷ []) = None
step_in n (tag ∷ caller ∷ []) = None
step_in n (tag ∷ caller ∷ last ∷ []) = option_and_then (λ c. tagged n tag c last) (number_within 1 most_callers caller)
step_in n (tag ∷ caller ∷ last ∷ d ∷ more) = None

-- the step over n points that a value is
abbrev pub step_of : ℕ → Data → Option StepItem
step_of n d = option_and_then (step_in n) (array_list d)

-- ---- the steps

abbrev pub most_steps : ℕ
most_steps = 100000

abbrev pub step_items : ℕ → List Data → Result (List StepItem) ScriptFault
step_items n items = unless_many most_steps TooManySteps items (each_or_fault (step_of n) BadStep items)

-- ---- a script: the value of its instance, and the items of its steps

abbrev pub parts_in : Data → Result (Data × List Data) ScriptFault
parts_in d = do
  instance ← or_fault NoInstance (get (codes "instance") d)
  items ← or_fault NoSteps (array_at (codes "steps") d)
  Ok (instance, list_of items)

unfoldable pub parts_from : List ℕ → Result (Data × List Data) ScriptFault
parts_from bytes = or_fault NotJson (json_reading bytes) >>= parts_in
