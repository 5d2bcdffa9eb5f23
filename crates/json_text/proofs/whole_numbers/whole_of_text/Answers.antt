use Rattle.std.proofs.Common.{sym, ap, ◌∙◌, Some, w64, rules}
use Rattle.std.proofs.lemmas.Int.{to_z-of_z}
use Rattle.json_text.proofs.Values.{nearest_of_text, no_number_of_text}
use Rattle.json_text.proofs.whole_numbers.whole_of_text.Goals as goal

pub returns-then-are_digits : goal.returns-then-are_digits
returns-then-are_digits c =
    let whole = nearest_of_text c.args.text.now c.after_minus-digits.result.now c.capped_value.result c.after_minus-digits.ensures (sym c.if-are_digits.ensures) c.capped_value.ensures in
    ap Some (to_z-of_z w64 c.nearest.result (search rules)) ∙ (ap Some c.nearest.ensures ∙ sym whole)

pub returns-else-are_digits : goal.returns-else-are_digits
returns-else-are_digits c = sym (no_number_of_text c.args.text.now c.after_minus-digits.result.now c.after_minus-digits.ensures (sym c.if-are_digits.ensures))
