-- The line of a command fits one of the lines, and so words that fit none are no command's.
use Rattle.std.proofs.Common.{ℕ, suc, ◌+◌, List, ◌∷◌, take, codes, Result, Ok, Err, IfErr, inl, inr, sym, subst, ap, refl, add-one, arith}
use Rattle.std.specs.Fmt.{decimal}
use Rattle.solver_top.specs.declared.words.Command.{Command}
use Rattle.solver_top.specs.declared.words.Command.TheVariants.{Judge, Start, Solve, Check, Part, Weave, Rewind, EditSession, Gen, GenSolve}
use Rattle.solver_top.specs.Words.{gen_words, Begins, BeginsALine, IsLineOf, IsFaultAt}
use Rattle.solver_top.specs.WordFaults.{FitsALine, IsFaultBehind, IsLineFaultAt}

pub line_fits : (words : List (List ℕ)) (command : Command) → IsLineOf words command → FitsALine words
line_fits words Judge line = subst FitsALine (sym line) tt
line_fits words Start line = subst FitsALine (sym line) tt
line_fits words (Solve e b rounds seed) (line, edit, bound, most, small) =
    subst FitsALine (sym line)
    ((e, edit, refl), ((b, bound, refl), ((rounds, most, refl), ((seed, small, refl), tt))))
line_fits words Check line = subst FitsALine (sym line) tt
line_fits words (Part name) line = subst FitsALine (sym line) ((name, refl), tt)
line_fits words Weave line = subst FitsALine (sym line) tt
line_fits words (Rewind k) (line, few) = subst FitsALine (sym line) ((k, few, refl), tt)
line_fits words EditSession line = subst FitsALine (sym line) tt
line_fits words (GenSolve kind n seed) (line, low, high, small) =
    subst FitsALine (sym line) ((kind, refl), ((n, low, high, refl), ((seed, small, refl), tt)))
line_fits words (Gen kind n seed) (line, low, high, small) =
    subst FitsALine (sym line) ((kind, refl), ((n, low, high, refl), ((seed, small, refl), tt)))

-- words that fit no line are no command's
pub line_fault : (words : List (List ℕ)) (k : ℕ) → IsLineFaultAt words k → IsFaultAt words k
line_fault words k h = record { within = h.within; before = h.before; fault = h.fault; none = λ command line. h.none (line_fits words command line) }

pub line_fault_of : {T : Type 0} (words : List (List ℕ)) (r : Result T ℕ) → IfErr r (IsLineFaultAt words) → IfErr r (IsFaultAt words)
line_fault_of words (Ok x) h = tt
line_fault_of words (Err k) h = line_fault words k h

-- a fault behind a first word, counted from that word
pub behind_gen : (words : List (List ℕ)) (k : ℕ) → IsFaultBehind gen_words words k → IsLineFaultAt (codes "gen" ∷ words) (k + 1)
behind_gen words k h = subst (IsLineFaultAt (codes "gen" ∷ words)) (sym (add-one k)) (record {
  within = let within = h.within in omega (arith, within);
  before = h.before;
  fault = elim h.fault [ inl at_end ↦ inl (omega (arith, at_end)) | inr none ↦ inr (subst (λ (j : ℕ). ¬ BeginsALine (take j (codes "gen" ∷ words))) (sym (add-one (suc k))) (subst (λ (j : ℕ). ¬ Begins gen_words (take j words)) (add-one k) none)) ];
  none = h.none;
})

pub behind_gen_solve : (words : List (List ℕ)) (k : ℕ) → IsFaultBehind gen_words words k → IsLineFaultAt (codes "gen-solve" ∷ words) (k + 1)
behind_gen_solve words k h = subst (IsLineFaultAt (codes "gen-solve" ∷ words)) (sym (add-one k)) (record {
  within = let within = h.within in omega (arith, within);
  before = h.before;
  fault = elim h.fault [ inl at_end ↦ inl (omega (arith, at_end)) | inr none ↦ inr (subst (λ (j : ℕ). ¬ BeginsALine (take j (codes "gen-solve" ∷ words))) (sym (add-one (suc k))) (subst (λ (j : ℕ). ¬ Begins gen_words (take j words)) (add-one k) none)) ];
  none = h.none;
})
