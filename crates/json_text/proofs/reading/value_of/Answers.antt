use Rattle.std.proofs.Common.{List, ℕ, sym, ap, ◌∙◌, subst}
use Rattle.std.specs.Str.{IsUtf8}
use Rattle.std.proofs.lemmas.Bool.{false≢true}
use Rattle.serde_json.specs.Read.{read}
use Rattle.text_defs.proofs.laws.Reading.{json_reading-deep, json_reading-read, json_reading-refused}
use Rattle.json_text.proofs.reading.value_of.Goals as goal

abbrev Utf8 : List ℕ → Type 0
Utf8 s = IsUtf8 s

pub returns-then-not-has_few_levels : goal.returns-then-not-has_few_levels
returns-then-not-has_few_levels c = json_reading-deep _ (sym c.if-not-has_few_levels.ensures)

pub returns-in-Ok-from_slice : goal.returns-in-Ok-from_slice
returns-in-Ok-from_slice c =
    let e = c.deref.ensures.value ∙ c.in-Ok.ensures in
    json_reading-read _ _ (sym c.if-not-has_few_levels.ensures) (subst Utf8 e c.in-Ok-from_slice.ensures.ok.0) (sym (ap read e) ∙ c.in-Ok-from_slice.ensures.ok.1)

pub returns : goal.returns
returns c =
    let e = c.deref.ensures.value ∙ c.in-Ok.ensures in
    json_reading-refused _ (sym c.if-not-has_few_levels.ensures)
    (λ u. sym (ap read e) ∙ c.in-Err-from_slice.ensures.err (λ m. false≢true (c.if-is_memory.ensures.1 m)) (subst Utf8 (sym e) u))
