-- The value that a text is: that of `serde_json`, once the numbers are rewritten, for a text of at most 64 levels.
use Rattle.std.specs.Prelude.{ℕ, List, ◌&&◌, nat_le, if◌then◌else◌, Option, None}
use Rattle.std.specs.Str.{is_utf8}
use Rattle.serde_json.specs.Data.{Data}
use Rattle.serde_json.specs.Read.{read}
use Rattle.text_defs.specs.Numbers.{rewritten}
use Rattle.text_defs.specs.Levels.{levels}

abbrev pub most_levels : ℕ
most_levels = 64

unfoldable pub json_reading : List ℕ → Option Data
json_reading bytes = if nat_le (levels bytes) most_levels && is_utf8 (rewritten bytes) then read (rewritten bytes) else None
