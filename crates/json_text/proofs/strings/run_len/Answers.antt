use Rattle.std.proofs.Common.{sym, arith}
use Rattle.std.proofs.lemmas.List.Sums.{prefix_len_is}
use Rattle.text_defs.specs.Pieces.{is_number_byte}
use Rattle.json_text.proofs.strings.run_len.Goals as goal

pub returns-clause-value : goal.returns-clause-value
returns-clause-value c =
    sym (prefix_len_is is_number_byte c.args.text.now _ 0 (omega arith) (λ k h. c.loop-end.invariant k (omega arith)) (λ h. absurd (omega arith)))
