-- A first word that is none of the program's.
use Rattle.std.proofs.Common.{◌≡◌, ℕ, ◌≤◌, List, [], ◌∷◌, length, get_or, map, codes, bytes_eq, inr, ap, ◌∙◌, arith}
use Rattle.std.specs.Prelude.{String, string_bytes, MatchBool}
use Rattle.std.specs.declared.alloc.Global.{Global}
use Rattle.std.proofs.lemmas.Bool.{false_from_ne_true}
use Rattle.std.proofs.lemmas.Bool.Decides.{when_false}
use Rattle.std.proofs.lemmas.Slice.Eq.{bytes_eq-Decides}
use Rattle.solver_top.specs.Words.{words_of, solve_words, part_words, rewind_words, gen_words, Begins, OfALine}
use Rattle.solver_top.specs.WordFaults.{Fits, IsLineFaultAt}

-- a word isn't this one, so what holds of its line isn't meant
passed : (word known : List ℕ) (P Q : Type 0) → (word ≡ known → ⊥) → MatchBool (bytes_eq word known) P Q → Q
passed word known P Q differ h = when_false P Q (false_from_ne_true (bytes_eq word known) (λ same. differ ((bytes_eq-Decides word known).0 same))) h

-- the word is none of those that begin a line
pub record IsNoFirst (word : List ℕ) : Type 0 where
  pub judge : word ≡ codes "judge" → ⊥
  pub start : word ≡ codes "start" → ⊥
  pub solve : word ≡ codes "solve" → ⊥
  pub check : word ≡ codes "check" → ⊥
  pub part : word ≡ codes "part" → ⊥
  pub weave : word ≡ codes "weave" → ⊥
  pub rewind : word ≡ codes "rewind" → ⊥
  pub edit : word ≡ codes "edit" → ⊥
  pub gen : word ≡ codes "gen" → ⊥
  pub gen_solve : word ≡ codes "gen-solve" → ⊥

of_no_line : (Holds : List (List ℕ → Type 0) → List (List ℕ) → Type 0) (word : List ℕ) (words : List (List ℕ)) → IsNoFirst word → OfALine Holds word words → ⊥
of_no_line Holds word words none h =
    let gen_solve : Type 0 = MatchBool (bytes_eq word (codes "gen-solve")) (Holds gen_words words) ⊥ in
    let gen : Type 0 = MatchBool (bytes_eq word (codes "gen")) (Holds gen_words words) gen_solve in
    let edit : Type 0 = MatchBool (bytes_eq word (codes "edit")) (Holds [] words) gen in
    let rewind : Type 0 = MatchBool (bytes_eq word (codes "rewind")) (Holds rewind_words words) edit in
    let weave : Type 0 = MatchBool (bytes_eq word (codes "weave")) (Holds [] words) rewind in
    let part : Type 0 = MatchBool (bytes_eq word (codes "part")) (Holds part_words words) weave in
    let check : Type 0 = MatchBool (bytes_eq word (codes "check")) (Holds [] words) part in
    let solve : Type 0 = MatchBool (bytes_eq word (codes "solve")) (Holds solve_words words) check in
    let start : Type 0 = MatchBool (bytes_eq word (codes "start")) (Holds [] words) solve in
    passed word (codes "gen-solve") (Holds gen_words words) ⊥ none.gen_solve
    (passed word (codes "gen") (Holds gen_words words) gen_solve none.gen
    (passed word (codes "edit") (Holds [] words) gen none.edit
    (passed word (codes "rewind") (Holds rewind_words words) edit none.rewind
    (passed word (codes "weave") (Holds [] words) rewind none.weave
    (passed word (codes "part") (Holds part_words words) weave none.part
    (passed word (codes "check") (Holds [] words) part none.check
    (passed word (codes "solve") (Holds solve_words words) check none.solve
    (passed word (codes "start") (Holds [] words) solve none.start
    (passed word (codes "judge") (Holds [] words) start none.judge h)))))))))

moved : (word other : List ℕ) → word ≡ other → IsNoFirst word → IsNoFirst other
moved word other same none = record {
  judge = λ e. none.judge (same ∙ e);
  start = λ e. none.start (same ∙ e);
  solve = λ e. none.solve (same ∙ e);
  check = λ e. none.check (same ∙ e);
  part = λ e. none.part (same ∙ e);
  weave = λ e. none.weave (same ∙ e);
  rewind = λ e. none.rewind (same ∙ e);
  edit = λ e. none.edit (same ∙ e);
  gen = λ e. none.gen (same ∙ e);
  gen_solve = λ e. none.gen_solve (same ∙ e);
}

-- so the words are no line from the first one on
pub no_first_word : (words : List (String Global)) (first : String Global) (word : List ℕ) → 1 ≤ length words → first ≡ get_or words 0 first → word ≡ string_bytes first → IsNoFirst word → IsLineFaultAt (words_of words) 0
no_first_word [] first word some is same none = absurd (omega (arith, some))
no_first_word (x ∷ words) first word some is same none =
    let other : IsNoFirst (string_bytes x) = moved word (string_bytes x) (same ∙ ap string_bytes is) none in
    record {
      within = omega arith;
      before = tt;
      fault = inr (λ begins. of_no_line Begins (string_bytes x) [] other begins);
      none = λ fits. of_no_line Fits (string_bytes x) (map string_bytes words) other fits;
    }
