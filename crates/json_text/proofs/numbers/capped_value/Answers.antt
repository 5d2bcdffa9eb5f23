use Rattle.std.proofs.Common.{◌∙◌, sym, arith}
use Rattle.json_text.specs.declared.numbers.TheConstants.{CAP}
use Rattle.json_text.proofs.Values.{value_step}
use Rattle.json_text.proofs.numbers.capped_value.Goals as goal

pub loop-byte-preserved : goal.loop-byte-preserved
loop-byte-preserved c = record {
  capped = omega (arith, c.with_digit-value.ensures);
  rest = rw c.with_digit-value.ensures
      (value_step CAP c.loop-byte.value c.args.text.now c.loop-byte.byte-index c.loop-byte-test.true (sym c.if-not-is_ascii_digit.ensures.value)
      ∙ c.loop-byte.invariant.rest);
}
