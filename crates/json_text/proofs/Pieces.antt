-- One piece of a text, over plain lists.
use Rattle.std.proofs.Common.{◌≡◌, ◌≢◌, ◌⊎◌, ℕ, ◌+◌, ◌-◌, ◌<◌, ◌≤◌, List, [], ◌∷◌, ◌++◌, length, take, drop, get_or, true, false, eqb, leb, sym, ap, ◌∙◌, arith, append_assoc}
use Rattle.std.specs.List.{prefix_len}
use Rattle.std.proofs.lemmas.Bool.Decides.{nat_tests}
use Rattle.text_defs.specs.Pieces.{is_number_byte, is_other, string_len}
use Rattle.text_defs.specs.Numbers.{replacement, rewritten}
use Rattle.text_defs.specs.Levels.{levels}
use Rattle.text_defs.proofs.laws.Rewriting.{rewritten-quote, rewritten-run, rewritten-others}
use Rattle.text_defs.proofs.laws.Levels.{levels-quote, levels-run, levels-other}
use Rattle.json_text.specs.Passes.{PassesPiece}

joined : (old new piece more all : List ℕ) → new ≡ old ++ piece → all ≡ piece ++ more → new ++ more ≡ old ++ all
joined old new piece more all n a = rw (n, a) (append_assoc old piece more)

pub pushes_string : (old new rest : List ℕ) (n : ℕ) → 0 < length rest → get_or rest 0 0 ≡ 34 → n ≡ 1 + string_len (drop 1 rest) → new ≡ old ++ take n rest
    → new ++ rewritten (drop n rest) ≡ old ++ rewritten rest
pushes_string old new rest n h q e p =
    let whole = rewritten-quote rest h q in
    joined old new (take n rest) (rewritten (drop n rest)) (rewritten rest) p (rw e whole)

pub pushes_run : (old new rest : List ℕ) (n : ℕ) → 0 < length rest → is_number_byte (get_or rest 0 0) ≡ true → get_or rest 0 0 ≢ 34 → n ≡ prefix_len is_number_byte rest
    → new ≡ old ++ replacement (take n rest) → new ++ rewritten (drop n rest) ≡ old ++ rewritten rest
pushes_run old new rest n h r q e p =
    let whole = rewritten-run rest h r (grind (arith, nat_tests)) in
    joined old new (replacement (take n rest)) (rewritten (drop n rest)) (rewritten rest) p (rw e whole)

pub pushes_others : (old new rest : List ℕ) (n : ℕ) → n ≡ prefix_len is_other rest → new ≡ old ++ take n rest
    → new ++ rewritten (drop n rest) ≡ old ++ rewritten rest
pushes_others old new rest n e p =
    joined old new (take n rest) (rewritten (drop n rest)) (rewritten rest) p (rw e (rewritten-others rest))

pub others_begin : (rest : List ℕ) → 0 < length rest → is_number_byte (get_or rest 0 0) ≡ false → get_or rest 0 0 ≢ 34 → 0 < prefix_len is_other rest
others_begin [] h r q = absurd (omega arith)
others_begin (c ∷ cs) h r q = let e : eqb c 34 ≡ false = grind (arith, nat_tests) in rw (r, e) (omega arith)

pub run_begins : (rest : List ℕ) → 0 < length rest → is_number_byte (get_or rest 0 0) ≡ true → 0 < prefix_len is_number_byte rest
run_begins [] h r = absurd (omega arith)
run_begins (c ∷ cs) h r = rw r (omega arith)

pub passes_string : (rest : List ℕ) (room n : ℕ) → 0 < length rest → get_or rest 0 0 ≡ 34 → n ≡ string_len (drop 1 rest) → n ≤ length rest - 1 → PassesPiece rest room (1 + n) room
passes_string rest room n h q e b = record {
  some = omega arith;
  bound = omega arith;
  rise = omega arith;
  same = ap (λ k. leb k room) (levels-quote rest h q ∙ ap (λ k. levels (drop (1 + k) rest)) (sym e));
}

pub passes_run : (rest : List ℕ) (room n : ℕ) → 0 < length rest → is_number_byte (get_or rest 0 0) ≡ true → get_or rest 0 0 ≢ 34 → n ≡ prefix_len is_number_byte rest → n ≤ length rest → PassesPiece rest room n room
passes_run rest room n h r q e b = record {
  some = rw e (run_begins rest h r);
  bound = b;
  rise = omega arith;
  same = ap (λ k. leb k room) (levels-run rest h r (grind (arith, nat_tests)) ∙ ap (λ k. levels (drop k rest)) (sym e));
}

pub passes_open : (rest : List ℕ) (room : ℕ) → 0 < length rest → is_number_byte (get_or rest 0 0) ≡ false → get_or rest 0 0 ≢ 34 → (get_or rest 0 0 ≡ 91) ⊎ (get_or rest 0 0 ≡ 123) → room ≢ 0 → PassesPiece rest room 1 (room - 1)
passes_open rest room h r q o n =
    let step = levels-other rest h r (grind (arith, nat_tests)) in
    record { some = omega arith; bound = omega arith; rise = omega arith; same = grind (arith, nat_tests) }

pub refuses_open : (rest : List ℕ) (room : ℕ) → 0 < length rest → is_number_byte (get_or rest 0 0) ≡ false → get_or rest 0 0 ≢ 34 → (get_or rest 0 0 ≡ 91) ⊎ (get_or rest 0 0 ≡ 123) → room ≡ 0 → leb (levels rest) room ≡ false
refuses_open rest room h r q o n =
    let step = levels-other rest h r (grind (arith, nat_tests)) in
    grind (arith, nat_tests)

pub passes_close : (rest : List ℕ) (room : ℕ) → 0 < length rest → is_number_byte (get_or rest 0 0) ≡ false → get_or rest 0 0 ≢ 34 → (get_or rest 0 0 ≡ 93) ⊎ (get_or rest 0 0 ≡ 125) → PassesPiece rest room 1 (room + 1)
passes_close rest room h r q o =
    let step = levels-other rest h r (grind (arith, nat_tests)) in
    record { some = omega arith; bound = omega arith; rise = omega arith; same = grind (arith, nat_tests) }

pub passes_other : (rest : List ℕ) (room : ℕ) → 0 < length rest → is_number_byte (get_or rest 0 0) ≡ false → get_or rest 0 0 ≢ 34
    → get_or rest 0 0 ≢ 91 → get_or rest 0 0 ≢ 123 → get_or rest 0 0 ≢ 93 → get_or rest 0 0 ≢ 125 → PassesPiece rest room 1 room
passes_other rest room h r q a b d e =
    let step = levels-other rest h r (grind (arith, nat_tests)) in
    record { some = omega arith; bound = omega arith; rise = omega arith; same = grind (arith, nat_tests) }
