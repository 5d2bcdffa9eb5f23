use Rattle.std.proofs.Common.{◌≡◌, ◌≤◌, min, drop}
use Rattle.std.specs.List.{take_while}
use Rattle.std.specs.Char.{is_ascii_digit}
use Rattle.std.specs.Str.Parse.{digits_value, digits_value_after}
use Rattle.json_text.specs.declared.numbers.TheConstants.{CAP}
use Rattle.json_text.proofs.numbers.capped_value.Given as goal

abbrev pub invariant-loop-byte : goal.invariant-loop-byte
invariant-loop-byte l = record {
  capped : l.value ≤ CAP;
  rest : min CAP (digits_value_after 10 l.value (take_while is_ascii_digit (drop l.byte-index l.text))) ≡ min CAP (digits_value 10 (take_while is_ascii_digit l.text));
}
