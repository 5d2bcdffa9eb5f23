-- How the reading of a text follows from its parts.
use Rattle.std.proofs.Common.{◌≡◌, List, ℕ, Bool, true, false, leb, refl, None, Some}
use Rattle.std.specs.Str.{IsUtf8, is_utf8}
use Rattle.std.proofs.lemmas.Str.{IsUtf8-from_is_utf8, is_utf8-from_IsUtf8}
use Rattle.serde_json.specs.Data.{Data}
use Rattle.serde_json.specs.Read.{read}
use Rattle.text_defs.specs.Numbers.{rewritten}
use Rattle.text_defs.specs.Levels.{levels}
use Rattle.text_defs.specs.Reading.{json_reading}

pub json_reading-deep : (bytes : List ℕ) → leb (levels bytes) 64 ≡ false → json_reading bytes ≡ None
unfolding json_reading
json_reading-deep bytes h = rw h refl

pub json_reading-read : (bytes : List ℕ) (d : Data) → leb (levels bytes) 64 ≡ true → IsUtf8 (rewritten bytes) → read (rewritten bytes) ≡ Some d → json_reading bytes ≡ Some d
unfolding json_reading
json_reading-read bytes d h u r = let v = is_utf8-from_IsUtf8 (rewritten bytes) u in rw (h, v) r

pub json_reading-refused : (bytes : List ℕ) → leb (levels bytes) 64 ≡ true → (IsUtf8 (rewritten bytes) → read (rewritten bytes) ≡ None) → json_reading bytes ≡ None
unfolding json_reading
json_reading-refused bytes h r =
    let P : Bool → Type 0 = λ b. is_utf8 (rewritten bytes) ≡ b → json_reading bytes ≡ None in
    let both : (b : Bool) → P b = λ b. elim b as P [
      | true ↦ λ e. rw (h, e) (r (IsUtf8-from_is_utf8 (rewritten bytes) e))
      | false ↦ λ e. rw (h, e) refl
    ] in
    both (is_utf8 (rewritten bytes)) refl
