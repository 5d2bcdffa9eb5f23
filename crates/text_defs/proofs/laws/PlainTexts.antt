-- A plain value's text is UTF-8, and its reading is the value: no two plain values have one text.
use Rattle.std.proofs.Common.{◌≡◌, ℕ, ◌≤◌, List, [], ◌∷◌, Bool, true, false, IsUtf8, Some, refl, sym, ap, ◌∙◌, subst, arith, le-leb}
use Rattle.std.proofs.lemmas.Str.{IsUtf8-append}
use Rattle.json.proofs.Printed.Utf8.{IsUtf8-are_ascii, IsUtf8-quoted, IsUtf8-boolean}
use Rattle.serde_json.specs.Data.{Data, null, boolean, number, string, array, object, Items, no_items, item, Members, no_members, member, depth}
use Rattle.serde_json.specs.Read.{read}
use Rattle.serde_json.specs.Written.{comma_if, compact_text, items_text, members_text}
use Rattle.text_defs.specs.Reading.{json_reading}
use Rattle.text_defs.proofs.laws.Reading.{json_reading-read}
use Rattle.text_defs.proofs.laws.IsPlain.{IsPlain, ItemsArePlain, MembersArePlain}
use Rattle.text_defs.proofs.laws.ReadBack.{read-compact_text}
use Rattle.text_defs.proofs.laws.Whole.{number_ascii}
use Rattle.text_defs.proofs.laws.PiecesWritten.{rewritten-compact_text, levels-compact_text}
use Rattle.std.proofs.lemmas.Option.{same_Some}

byte_then : (b : ℕ) (t : List ℕ) → IsUtf8 (b ∷ []) → IsUtf8 t → IsUtf8 (b ∷ t)
byte_then b t u v = IsUtf8-append (b ∷ []) t u v

comma_utf8 : (later : Bool) → IsUtf8 (comma_if later)
comma_utf8 true = IsUtf8-are_ascii _ refl
comma_utf8 false = IsUtf8-are_ascii _ refl

mutual
  pub utf8_text : (d : Data) → IsPlain d → IsUtf8 (compact_text d)
  utf8_text null h = IsUtf8-are_ascii _ refl
  utf8_text (boolean b) h = IsUtf8-boolean b
  utf8_text (number n) h = IsUtf8-are_ascii _ (number_ascii n h)
  utf8_text (string s) h = IsUtf8-quoted s h
  utf8_text (array ds) h = byte_then 91 _ (IsUtf8-are_ascii _ refl) (utf8_items ds false h)
  utf8_text (object ms) h = byte_then 123 _ (IsUtf8-are_ascii _ refl) (utf8_members ms false h.1)

  utf8_items : (ds : Items) (later : Bool) → ItemsArePlain ds → IsUtf8 (items_text later ds)
  utf8_items no_items later h = IsUtf8-are_ascii _ refl
  utf8_items (item d ds) later h = IsUtf8-append _ _ (comma_utf8 later) (IsUtf8-append _ _ (utf8_text d h.0) (utf8_items ds true h.1))

  utf8_members : (ms : Members) (later : Bool) → MembersArePlain ms → IsUtf8 (members_text later ms)
  utf8_members no_members later h = IsUtf8-are_ascii _ refl
  utf8_members (member k d ms) later h =
      IsUtf8-append _ _ (comma_utf8 later) (IsUtf8-append _ _ (IsUtf8-quoted k h.0) (byte_then 58 _ (IsUtf8-are_ascii _ refl) (IsUtf8-append _ _ (utf8_text d h.1.0) (utf8_members ms true h.1.1))))

-- The reading of a plain value's text is the value.
pub json_reading-compact_text : (d : Data) → IsPlain d → depth d ≤ 64 → json_reading (compact_text d) ≡ Some d
json_reading-compact_text d h shallow =
    let same = rewritten-compact_text d h in
    json_reading-read (compact_text d) d (le-leb _ 64 (omega (arith, levels-compact_text d h))) (subst IsUtf8 (sym same) (utf8_text d h)) (ap read same ∙ read-compact_text d h (omega arith))

-- A text fixes its plain value.
pub one_value : (d e : Data) → IsPlain d → IsPlain e → depth d ≤ 64 → depth e ≤ 64 → compact_text d ≡ compact_text e → d ≡ e
one_value d e h k m n same = same_Some d e (sym (json_reading-compact_text d h m) ∙ (ap json_reading same ∙ json_reading-compact_text e k n))
