-- The parts of a session.
use Rattle.std.proofs.Common.{◌≡◌, ℕ, List, map, Some, None, Ok, Err, codes, refl}
use Rattle.serde_json.specs.Data.{Data}
use Rattle.serde_json.specs.Find.{get}
use Rattle.serde_json.specs.View.{view, items_view}
use Rattle.serde_json.specs.declared.value.Value.{Value}
use Rattle.text_defs.specs.Reading.{json_reading}
use Rattle.text_defs.specs.Fields.{array_at}
use Rattle.text_defs.proofs.laws.Lists.{list_of-items_of}
use Rattle.session_script.specs.declared.script.SessionFault.TheVariants.{NotJson, NoInstance, NoCommands}
use Rattle.session_script.specs.Reading.{parts_from}

pub not_json : (bytes : List ℕ) → json_reading bytes ≡ None → parts_from bytes ≡ Err NotJson
unfolding parts_from
not_json bytes read = rw read refl

pub no_instance : (bytes : List ℕ) (d : Data) → json_reading bytes ≡ Some d → get (codes "instance") d ≡ None → parts_from bytes ≡ Err NoInstance
unfolding parts_from
no_instance bytes d read none = rw (read, none) refl

pub no_commands : (bytes : List ℕ) (d instance : Data) → json_reading bytes ≡ Some d → get (codes "instance") d ≡ Some instance → None ≡ array_at (codes "commands") d → parts_from bytes ≡ Err NoCommands
unfolding parts_from
no_commands bytes d instance read found none = rw (read, found, ← none) refl

pub has_parts : (bytes : List ℕ) (d instance : Data) (vs : List Value) → json_reading bytes ≡ Some d → get (codes "instance") d ≡ Some instance → Some (items_view vs) ≡ array_at (codes "commands") d
    → parts_from bytes ≡ Ok (instance, map view vs)
unfolding parts_from
has_parts bytes d instance vs read found list = rw (read, found, ← list, list_of-items_of (map view vs)) refl
