use Rattle.std.proofs.Common.{◌≡◌, ◌∙◌, ℕ, ◌≤◌, List, [], ◌++◌, map, length, Option, option_map, Some, None, sym, ap, subst, arith}
use Rattle.serde_json.specs.Data.{Data}
use Rattle.serde_json.specs.Find.{as_array}
use Rattle.serde_json.specs.View.{view, items_view}
use Rattle.serde_json.specs.declared.value.Value.{Value}
use Rattle.text_defs.specs.Items.{all_of}
use Rattle.journal_defs.specs.declared.edit.Edit.{Edit}
use Rattle.report_io.specs.Reading.{edit_of, edits_of}
use Rattle.report_io.specs.Report.{edit_item}
use Rattle.weave_script.proofs.EditLists.{edits_of-list, edits_in-none, edits_in-many, edits_in-few, edits_count, none_read, some_read}
use Rattle.weave_script.proofs.edits.edits_of.Goals as goal

pub returns-then-is_empty : goal.returns-then-is_empty
returns-then-is_empty c =
    let vs = c.in_ok-items.items.now in
    let none : length vs ≡ 0 = grind (arith, c.is_empty.ensures, c.if-is_empty.true) in
    sym (edits_of-list c.args.n (view c.args.value.now) vs c.in_ok-items.ensures ∙ edits_in-none c.args.n vs none)

pub returns-then-items-gt-MOST_EDITS : goal.returns-then-items-gt-MOST_EDITS
returns-then-items-gt-MOST_EDITS c =
    let vs = c.in_ok-items.items.now in
    sym (edits_of-list c.args.n (view c.args.value.now) vs c.in_ok-items.ensures ∙ edits_in-many c.args.n vs c.if-items-gt-MOST_EDITS.true)

-- what was read of 1 to 8 items
read_few : (n : ℕ) (d : Data) (vs : List Value) (es : List Edit) → Some (items_view vs) ≡ as_array d → 1 ≤ length vs → length vs ≤ 8 → Some (map edit_item es) ≡ all_of (edit_of n) (map view vs)
    → Some (map edit_item es) ≡ edits_of n d
read_few n d vs es h some few read = read ∙ sym (edits_of-list n d vs h ∙ edits_in-few n vs some few)

pub returns-in_err-push_edits : goal.returns-in_err-push_edits
returns-in_err-push_edits c =
    let vs = c.in_ok-items.items.now in
    let some : 1 ≤ length vs = grind (arith, c.is_empty.ensures, c.if-is_empty.false) in
    let few : length vs ≤ 8 = omega (arith, c.if-items-gt-MOST_EDITS.false) in
    let old : c.new-edits.result.items ≡ [] = c.new-edits.ensures in
    let none : all_of (edit_of c.args.n) (map view vs) ≡ None =
    none_read (all_of (edit_of c.args.n) (map view vs))
    (subst (λ (es : List Edit). None ≡ option_map (λ more. map edit_item es ++ more) (all_of (edit_of c.args.n) (map view vs))) old c.in_err-push_edits.ensures) in
    ap (λ (o : Option (List Edit)). option_map (map edit_item) o) c.from_residual-in_err-push_edits.ensures
    ∙ sym (edits_of-list c.args.n (view c.args.value.now) vs c.in_ok-items.ensures ∙ (edits_in-few c.args.n vs some few ∙ none))

pub make-requires-clause-some : goal.make-requires-clause-some
make-requires-clause-some c =
    let vs = c.in_ok-items.items.now in
    let some : 1 ≤ length vs = grind (arith, c.is_empty.ensures, c.if-is_empty.false) in
    let read : Some (map edit_item c.push_edits.new.edits.items) ≡ all_of (edit_of c.args.n) (map view vs) =
    some_read (all_of (edit_of c.args.n) (map view vs)) (map edit_item c.push_edits.new.edits.items)
    (subst (λ (es : List Edit). Some (map edit_item c.push_edits.new.edits.items) ≡ option_map (λ more. map edit_item es ++ more) (all_of (edit_of c.args.n) (map view vs))) c.new-edits.ensures c.in_ok-push_edits.ensures) in
    let count : length c.push_edits.new.edits.items ≡ length vs = edits_count c.args.n vs c.push_edits.new.edits.items read in
    subst (λ (es : List Edit). 1 ≤ length es) (sym c.as_slice.ensures.value) (omega (arith, some, count))

pub returns : goal.returns
returns c =
    let vs = c.in_ok-items.items.now in
    let some : 1 ≤ length vs = grind (arith, c.is_empty.ensures, c.if-is_empty.false) in
    let few : length vs ≤ 8 = omega (arith, c.if-items-gt-MOST_EDITS.false) in
    let read : Some (map edit_item c.push_edits.new.edits.items) ≡ all_of (edit_of c.args.n) (map view vs) =
    some_read (all_of (edit_of c.args.n) (map view vs)) (map edit_item c.push_edits.new.edits.items)
    (subst (λ (es : List Edit). Some (map edit_item c.push_edits.new.edits.items) ≡ option_map (λ more. map edit_item es ++ more) (all_of (edit_of c.args.n) (map view vs))) c.new-edits.ensures c.in_ok-push_edits.ensures) in
    ap (λ (es : List Edit). Some (map edit_item es)) (c.make.ensures ∙ c.as_slice.ensures.value)
    ∙ read_few c.args.n (view c.args.value.now) vs c.push_edits.new.edits.items c.in_ok-items.ensures some few read
