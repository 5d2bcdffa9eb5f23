-- The reading of edits.
use Rattle.std.proofs.Common.{◌≡◌, ℕ, ◌<◌, ◌≤◌, List, [], ◌∷◌, ◌++◌, map, length, nat_le, ◌&&◌, Option, Some, None, option_map, true, false, refl, sym, ◌∙◌, arith}
use Rattle.std.proofs.lemmas.List.{length-map}
use Rattle.serde_json.specs.Data.{Data}
use Rattle.serde_json.specs.Find.{as_array}
use Rattle.serde_json.specs.View.{view, items_view}
use Rattle.serde_json.specs.declared.value.Value.{Value}
use Rattle.text_defs.specs.Items.{all_of}
use Rattle.text_defs.proofs.laws.Lists.{list_of-items_of}
use Rattle.journal_defs.specs.declared.edit.Edit.{Edit}
use Rattle.report_io.specs.Parts.{EditItem}
use Rattle.report_io.specs.Reading.{edit_of, edits_in, edits_of}
use Rattle.report_io.specs.Report.{edit_item}
use Rattle.report_io.proofs.laws.PartLimits.{IsEditItem}
use Rattle.report_io.proofs.laws.PartsWithin.{edit_of-some, all_of-some}

pub edits_of-list : (n : ℕ) (d : Data) (vs : List Value) → Some (items_view vs) ≡ as_array d → edits_of n d ≡ edits_in n (map view vs)
edits_of-list n d vs h = rw (← h, list_of-items_of (map view vs)) refl

pub edits_in-none : (n : ℕ) (vs : List Value) → length vs ≡ 0 → edits_in n (map view vs) ≡ None
edits_in-none n vs h =
    let same = length-map vs view in
    let none : nat_le 1 (length (map view vs)) ≡ false = grind (arith, same) in
    rw none refl

pub edits_in-many : (n : ℕ) (vs : List Value) → 8 < length vs → edits_in n (map view vs) ≡ None
edits_in-many n vs h =
    let same = length-map vs view in
    let many : (nat_le 1 (length (map view vs)) && nat_le (length (map view vs)) 8) ≡ false = grind (arith, same) in
    rw many refl

pub edits_in-few : (n : ℕ) (vs : List Value) → 1 ≤ length vs → length vs ≤ 8 → edits_in n (map view vs) ≡ all_of (edit_of n) (map view vs)
edits_in-few n vs h k =
    let same = length-map vs view in
    let few : (nat_le 1 (length (map view vs)) && nat_le (length (map view vs)) 8) ≡ true = grind (arith, same) in
    rw few refl

-- what was read behind nothing
pub none_read : (o : Option (List EditItem)) → None ≡ option_map (λ more. map edit_item [] ++ more) o → o ≡ None
none_read None h = refl
none_read (Some xs) h = absurd (cc)

pub some_read : (o : Option (List EditItem)) (xs : List EditItem) → Some xs ≡ option_map (λ more. map edit_item [] ++ more) o → Some xs ≡ o
some_read None xs h = absurd (cc)
some_read (Some ys) xs h = h

-- as many edits as items
pub edits_count : (n : ℕ) (vs : List Value) (es : List Edit) → Some (map edit_item es) ≡ all_of (edit_of n) (map view vs) → length es ≡ length vs
edits_count n vs es read =
    let count = (all_of-some (IsEditItem n) (edit_of n) (map view vs) (map edit_item es) (edit_of-some n) (sym read)).1 in
    sym (length-map es edit_item) ∙ (count ∙ length-map vs view)
