-- The text of a value has no LF, so the lines of values that are written are their texts.
use Rattle.std.proofs.Common.{◌≡◌, ℕ, zero, suc, ◌<◌, ◌≤◌, List, [], ◌∷◌, ◌++◌, length, map, Bool, true, false, not, ◌&&◌, ◌==◌, eqb, inl, inr, refl, sym, ap, ap₂, ◌∙◌, arith, append_assoc, ne_eqb, subst, flat_map}
use Rattle.std.proofs.lemmas.Bool.{and_parts, and_from, cases_lt, cases_eq}
use Rattle.std.proofs.lemmas.Bool.Decides.{nat_tests}
use Rattle.json.specs.Print.{escape_byte, escape, quoted}
use Rattle.json.proofs.Printed.Strings.{escape_byte_plain}
use Rattle.serde_json.specs.Data.{Data, null, boolean, number, string, array, object, Items, no_items, item, Members, no_members, member, depth}
use Rattle.serde_json.specs.Written.{number_text, comma_if, compact_text, items_text, members_text}
use Rattle.text_defs.specs.Pieces.{is_number_byte}
use Rattle.text_defs.proofs.laws.IsPlain.{IsPlain, ItemsArePlain, MembersArePlain, Each}
use Rattle.text_defs.specs.Lines.{put_first, lines, line_text, lines_text}
use Rattle.text_defs.proofs.laws.Whole.{are_number_bytes, number_bytes}
use Rattle.text_defs.proofs.laws.PlainTexts.{one_value}
use Rattle.text_defs.proofs.laws.Lists.{heads, tails}

abbrev pub unfed : List ℕ → Bool
unfed [] = true
unfed (c ∷ cs) = not (c == 10) && unfed cs

unfed-append : (s t : List ℕ) → unfed s ≡ true → unfed t ≡ true → unfed (s ++ t) ≡ true
unfed-append [] t h k = k
unfed-append (c ∷ s) t h k = let p = and_parts (not (eqb c 10)) (unfed s) h in and_from _ _ p.0 (unfed-append s t p.1 k)

abbrev unfed_below : ℕ → Bool
unfed_below zero = true
unfed_below (suc n) = unfed (escape_byte n) && unfed_below n

escape_unfed_below : (n : ℕ) → unfed_below n ≡ true → (x : ℕ) → x < n → unfed (escape_byte x) ≡ true
escape_unfed_below zero e x h = absurd (omega arith)
escape_unfed_below (suc n) e x h =
    let p = and_parts (unfed (escape_byte n)) (unfed_below n) e in
    elim (cases_eq x n) [ inl same ↦ rw same p.0 | inr other ↦ escape_unfed_below n p.1 x (omega arith) ]

all_unfed : unfed_below 128 ≡ true
unfolding escape_byte
all_unfed = refl

escape_unfed : (x : ℕ) → unfed (escape_byte x) ≡ true
escape_unfed x = elim (cases_lt x 128) [
  | inl small ↦ escape_unfed_below 128 all_unfed x small
  | inr big ↦ subst (λ l. unfed l ≡ true) (sym (escape_byte_plain x (λ e. omega arith) (λ e. omega arith) (omega arith))) (rw (ne_eqb x 10 (λ e. omega arith)) refl)
]

text_unfed : (s : List ℕ) → unfed (escape s ++ 34 ∷ []) ≡ true
text_unfed [] = refl
text_unfed (x ∷ s) = subst (λ l. unfed l ≡ true) (sym (append_assoc (escape_byte x) (escape s) (34 ∷ []))) (unfed-append (escape_byte x) _ (escape_unfed x) (text_unfed s))

quoted_unfed : (s : List ℕ) → unfed (quoted s) ≡ true
quoted_unfed s = text_unfed s

number_unfed : (cs : List ℕ) → are_number_bytes cs ≡ true → unfed cs ≡ true
number_unfed [] h = refl
number_unfed (c ∷ cs) h = let p = and_parts (is_number_byte c) (are_number_bytes cs) h in and_from _ _ (no_feed c p.0) (number_unfed cs p.1)
  where
    no_feed : (c : ℕ) → is_number_byte c ≡ true → not (eqb c 10) ≡ true
    no_feed c h = grind (arith, nat_tests)

comma_unfed : (later : Bool) → unfed (comma_if later) ≡ true
comma_unfed true = refl
comma_unfed false = refl

mutual
  pub unfed-compact_text : (d : Data) → IsPlain d → unfed (compact_text d) ≡ true
  unfed-compact_text null h = refl
  unfed-compact_text (boolean true) h = refl
  unfed-compact_text (boolean false) h = refl
  unfed-compact_text (number n) h = number_unfed (number_text n) (number_bytes n h)
  unfed-compact_text (string s) h = quoted_unfed s
  unfed-compact_text (array ds) h = unfed-items ds false h
  unfed-compact_text (object ms) h = unfed-members ms false h.1

  unfed-items : (ds : Items) (later : Bool) → ItemsArePlain ds → unfed (items_text later ds) ≡ true
  unfed-items no_items later h = refl
  unfed-items (item d ds) later h = unfed-append (comma_if later) _ (comma_unfed later) (unfed-append (compact_text d) _ (unfed-compact_text d h.0) (unfed-items ds true h.1))

  unfed-members : (ms : Members) (later : Bool) → MembersArePlain ms → unfed (members_text later ms) ≡ true
  unfed-members no_members later h = refl
  unfed-members (member k d ms) later h =
      unfed-append (comma_if later) _ (comma_unfed later) (unfed-append (quoted k) _ (quoted_unfed k) (unfed-append (compact_text d) _ (unfed-compact_text d h.1.0) (unfed-members ms true h.1.1)))

first_line : (t rest : List ℕ) → unfed t ≡ true → lines (t ++ 10 ∷ rest) ≡ t ∷ lines rest
first_line [] rest h = refl
first_line (c ∷ t) rest h =
    let p = and_parts (not (eqb c 10)) (unfed t) h in
    let q : eqb c 10 ≡ false = no c p.0 in
    rw q (ap (put_first c) (first_line t rest p.1))
  where
    no : (c : ℕ) → not (eqb c 10) ≡ true → eqb c 10 ≡ false
    no c h = grind (arith, nat_tests)

-- The lines of plain values that are written are their texts.
pub lines-lines_text : (ds : List Data) → Each IsPlain ds → lines (lines_text ds) ≡ map compact_text ds
unfolding lines_text
lines-lines_text [] h = refl
lines-lines_text (d ∷ ds) h =
    ap lines (append_assoc (compact_text d) (10 ∷ []) (flat_map line_text ds))
    ∙ (first_line (compact_text d) (flat_map line_text ds) (unfed-compact_text d h.0) ∙ ap (λ l. compact_text d ∷ l) (lines-lines_text ds h.1))

abbrev IsLine : Data → Type 0
IsLine d = IsPlain d × (depth d ≤ 64)

plain_lines : (ds : List Data) → Each IsLine ds → Each IsPlain ds
plain_lines [] h = tt
plain_lines (d ∷ ds) h = (h.0.0, plain_lines ds h.1)

texts_fix : (ds es : List Data) → Each IsLine ds → Each IsLine es → map compact_text ds ≡ map compact_text es → ds ≡ es
texts_fix [] [] h k e = refl
texts_fix [] (x ∷ es) h k e = absurd (cc)
texts_fix (d ∷ ds) [] h k e = absurd (cc)
texts_fix (d ∷ ds) (x ∷ es) h k e =
    ap₂ (λ (a : Data) (l : List Data). a ∷ l) (one_value d x h.0.0 k.0.0 h.0.1 k.0.1 (heads _ _ _ _ e)) (texts_fix ds es h.1 k.1 (tails _ _ _ _ e))

-- A text of lines fixes its plain values, whatever the limits of a reader are.
pub one_list : (ds es : List Data) → Each IsLine ds → Each IsLine es → lines_text ds ≡ lines_text es → ds ≡ es
one_list ds es h k e =
    texts_fix ds es h k (sym (lines-lines_text ds (plain_lines ds h)) ∙ (ap lines e ∙ lines-lines_text es (plain_lines es k)))

lines-front : (ds : List Data) (rest : List ℕ) → Each IsPlain ds → lines (lines_text ds ++ rest) ≡ map compact_text ds ++ lines rest
unfolding lines_text
lines-front [] rest h = refl
lines-front (d ∷ ds) rest h =
    ap (λ t. lines (t ++ rest)) (append_assoc (compact_text d) (10 ∷ []) (flat_map line_text ds))
    ∙ (ap lines (append_assoc (compact_text d) (10 ∷ flat_map line_text ds) rest)
    ∙ (first_line (compact_text d) (flat_map line_text ds ++ rest) (unfed-compact_text d h.0) ∙ ap (λ l. compact_text d ∷ l) (lines-front ds rest h.1)))

fronts_fix : (ds es : List Data) (ls ms : List (List ℕ)) → length ds ≡ length es → Each IsLine ds → Each IsLine es → map compact_text ds ++ ls ≡ map compact_text es ++ ms → ds ≡ es
fronts_fix [] [] ls ms n h k e = refl
fronts_fix [] (x ∷ es) ls ms n h k e = absurd (omega (arith, n))
fronts_fix (d ∷ ds) [] ls ms n h k e = absurd (omega (arith, n))
fronts_fix (d ∷ ds) (x ∷ es) ls ms n h k e =
    ap₂ (λ (a : Data) (l : List Data). a ∷ l) (one_value d x h.0.0 k.0.0 h.0.1 k.0.1 (heads _ _ _ _ e)) (fronts_fix ds es ls ms (omega (arith, n)) h.1 k.1 (tails _ _ _ _ e))

-- As many first lines are fixed by the text, whatever follows them.
pub one_front : (ds es : List Data) (rest more : List ℕ) → length ds ≡ length es → Each IsLine ds → Each IsLine es → lines_text ds ++ rest ≡ lines_text es ++ more → ds ≡ es
one_front ds es rest more n h k e =
    fronts_fix ds es (lines rest) (lines more) n h k (sym (lines-front ds rest (plain_lines ds h)) ∙ (ap lines e ∙ lines-front es more (plain_lines es k)))
