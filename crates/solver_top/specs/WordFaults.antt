-- For private clauses.
-- Words that are no line, told by the lines with their first word alone.
use Rattle.std.specs.Prelude.{◌≡◌, ℕ, ◌+◌, ◌<◌, ◌≤◌, ◌^◌, List, [], ◌∷◌, length, take, ◌⊎◌}
use Rattle.std.specs.Fmt.{decimal}
use Rattle.generator.specs.Names.{kind_word}
use Rattle.solver_top.specs.declared.words.made.Made.{Made}
use Rattle.solver_top.specs.Words.{Begins, OfALine, BeginsALine}

-- the words are all that a line has
abbrev pub Fits : List (List ℕ → Type 0) → List (List ℕ) → Type 0
Fits [] [] = Unit {0}
Fits [] (word ∷ words) = ⊥
Fits (May ∷ line) [] = ⊥
Fits (May ∷ line) (word ∷ words) = May word × Fits line words

-- words behind a first word that aren't what its line has there: the fault is at k, counted from the word behind it
pub record IsFaultBehind (line : List (List ℕ → Type 0)) (words : List (List ℕ)) (k : ℕ) : Type 0 where
  pub within : k ≤ length words
  pub before : Begins line (take k words)
  pub fault : (k ≡ length words) ⊎ ¬ Begins line (take (k + 1) words)
  pub none : ¬ Fits line words

-- the words are the kind, the count and the seed of an instance that is made from a number
pub record IsMadeLine (words : List (List ℕ)) (made : Made) : Type 0 where
  pub line : words ≡ kind_word made.kind ∷ decimal made.n ∷ decimal made.seed ∷ []
  pub least : 3 ≤ made.n
  pub most : made.n ≤ 5000
  pub seed : made.seed < 2 ^ 64

abbrev pub FitsALine : List (List ℕ) → Type 0
FitsALine [] = ⊥
FitsALine (first ∷ words) = OfALine Fits first words

-- as IsFaultAt, over the lines in place of the commands
pub record IsLineFaultAt (words : List (List ℕ)) (k : ℕ) : Type 0 where
  pub within : k ≤ length words
  pub before : BeginsALine (take k words)
  pub fault : (k ≡ length words) ⊎ ¬ BeginsALine (take (k + 1) words)
  pub none : ¬ FitsALine words
