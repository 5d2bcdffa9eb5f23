-- When a text has no value.
use Rattle.std.specs.Prelude.{◌≡◌, Option, None}
use Rattle.serde_json.specs.Data.{Data}
use Rattle.json_text.specs.declared.reading.TextFault.{TextFault}
use Rattle.json_text.specs.declared.reading.TextFault.TheVariants.{NotJson, NoMemory}

-- a text that isn't JSON has no reading; want of memory says nothing
abbrev pub RefusesText : TextFault → Option Data → Type 0
RefusesText NotJson reading = reading ≡ None
RefusesText NoMemory reading = Unit {0}
