-- The parts of a bundle: an instance and a solution under their keys (this project's own).
use Rattle.std.specs.Prelude.{ℕ, List, Result, Ok, codes}
use Rattle.serde_json.specs.Data.{Data}
use Rattle.serde_json.specs.Find.{get}
use Rattle.text_defs.specs.Reading.{json_reading}
use Rattle.text_defs.specs.Steps.{◌>>=◌, or_fault}

-- why a text has no such parts; the faults of the parts come after these
pub data Fault : Type 0 where
  not_json : Fault
  no_instance : Fault
  no_solution : Fault

abbrev pub parts_in : Data → Result (Data × Data) Fault
parts_in d = do
  instance ← or_fault no_instance (get (codes "instance") d)
  solution ← or_fault no_solution (get (codes "solution") d)
  Ok (instance, solution)

unfoldable pub parts_from : List ℕ → Result (Data × Data) Fault
parts_from bytes = or_fault not_json (json_reading bytes) >>= parts_in
