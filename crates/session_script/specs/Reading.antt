-- What the parts of a session are read as, or their first fault. (This project's own.)
use Rattle.std.specs.Prelude.{ℕ, List, [], ◌∷◌, if◌then◌else◌, Option, Some, None, option_map, option_and_then, Result, Ok, codes}
use Rattle.serde_json.specs.Data.{Data}
use Rattle.serde_json.specs.Find.{get}
use Rattle.text_defs.specs.Reading.{json_reading}
use Rattle.text_defs.specs.Steps.{◌>>=◌, or_fault}
use Rattle.text_defs.specs.Fields.{list_of, array_at}
use Rattle.text_defs.specs.Items.{index, is_tag, array_list, each_or_fault, unless_many}
use Rattle.report_io.specs.Parts.{EditItem}
use Rattle.report_io.specs.Reading.{edits_of}
use Rattle.session_script.specs.declared.script.SessionFault.{SessionFault}
use Rattle.session_script.specs.declared.script.SessionFault.TheVariants.{NotJson, NoInstance, NoCommands, TooManyCommands, BadCommand}

-- ---- a command: its tag, and a vertex or edits where it has them

pub data CommandItem : Type 0 where
  looked : ℕ → CommandItem
  committed : List EditItem → CommandItem
  undone : CommandItem
  bounded : CommandItem

abbrev pub alone : Data → Option CommandItem
alone tag =
    if is_tag (codes "undo") tag then Some undone
    else (if is_tag (codes "bound") tag then Some bounded else None)

abbrev pub tagged : ℕ → Data → Data → Option CommandItem
tagged n tag last =
    if is_tag (codes "look") tag then option_map looked (index n last)
    else (if is_tag (codes "commit") tag then option_map committed (edits_of n last) else None)

abbrev pub command_in : ℕ → List Data → Option CommandItem
command_in n [] = None
command_in n (tag ∷ []) = alone tag
command_in n (tag ∷ last ∷ []) = tagged n tag last
command_in n (tag ∷ last ∷ d ∷ more) = None

-- the command over n points that a value is
abbrev pub command_of : ℕ → Data → Option CommandItem
command_of n d = option_and_then (command_in n) (array_list d)

-- ---- the commands

abbrev pub most_commands : ℕ
most_commands = 100000

abbrev pub command_items : ℕ → List Data → Result (List CommandItem) SessionFault
command_items n items = unless_many most_commands TooManyCommands items (each_or_fault (command_of n) BadCommand items)

-- ---- a session: the value of its instance, and the items of its commands

abbrev pub parts_in : Data → Result (Data × List Data) SessionFault
parts_in d = do
  instance ← or_fault NoInstance (get (codes "instance") d)
  items ← or_fault NoCommands (array_at (codes "commands") d)
  Ok (instance, list_of items)

unfoldable pub parts_from : List ℕ → Result (Data × List Data) SessionFault
parts_from bytes = or_fault NotJson (json_reading bytes) >>= parts_in
