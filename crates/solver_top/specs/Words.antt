-- The words of the command line, and the lines that they may form. (This project's own.)
use Rattle.std.specs.Prelude.{◌≡◌, ℕ, ◌+◌, ◌<◌, ◌≤◌, ◌^◌, List, [], ◌∷◌, length, take, map, codes, String, string_bytes, bytes_eq, slice_index_or, MatchBool, ◌⊎◌}
use Rattle.std.specs.Fmt.{decimal}
use Rattle.std.specs.declared.alloc.Global.{Global}
use Rattle.generator.specs.declared.kinds.Kind.{Kind}
use Rattle.generator.specs.Names.{kind_word}
use Rattle.solver_top.specs.declared.words.Command.{Command}
use Rattle.solver_top.specs.declared.words.Command.TheVariants.{Judge, Start, Solve, Check, Part, Weave, Rewind, EditSession, Gen, GenSolve}
use Rattle.report_io.specs.declared.report.Part.{Part as ReportPart}
use Rattle.report_io.specs.declared.report.Part.TheVariants as part

abbrev pub words_of : List (String Global) → List (List ℕ)
words_of words = map string_bytes words

-- the words of a line, each as the numbers that it may be
abbrev pub IsKind : List ℕ → Type 0
IsKind word = (kind : Kind) × (word ≡ kind_word kind)

abbrev pub IsCount : List ℕ → Type 0
IsCount word = (n : ℕ) × (3 ≤ n) × (n ≤ 5000) × (word ≡ decimal n)

abbrev pub IsSeed : List ℕ → Type 0
IsSeed word = (seed : ℕ) × (seed < 2 ^ 64) × (word ≡ decimal seed)

abbrev pub IsWorkers : List ℕ → Type 0
IsWorkers word = (n : ℕ) × (n ≤ 16) × (word ≡ decimal n)

abbrev pub IsCommits : List ℕ → Type 0
IsCommits word = (n : ℕ) × (n ≤ 200000) × (word ≡ decimal n)

-- a part of a report by its word
abbrev pub part_word : ReportPart → List ℕ
part_word part.Instance = codes "instance"
part_word part.Solution = codes "solution"
part_word part.Certificate = codes "certificate"
part_word part.Journal = codes "journal"
part_word part.Summary = codes "summary"

abbrev pub IsPartWord : List ℕ → Type 0
IsPartWord word = (name : ReportPart) × (word ≡ part_word name)

abbrev pub IsRounds : List ℕ → Type 0
IsRounds word = (n : ℕ) × (n ≤ 1000) × (word ≡ decimal n)

-- what the lines have behind their first word
abbrev pub solve_words : List (List ℕ → Type 0)
solve_words = IsWorkers ∷ IsWorkers ∷ IsRounds ∷ IsSeed ∷ []

abbrev pub part_words : List (List ℕ → Type 0)
part_words = IsPartWord ∷ []

abbrev pub rewind_words : List (List ℕ → Type 0)
rewind_words = IsCommits ∷ []

abbrev pub gen_words : List (List ℕ → Type 0)
gen_words = IsKind ∷ IsCount ∷ IsSeed ∷ []

-- the words begin with what a line may have, each at its place
abbrev pub Begins : List (List ℕ → Type 0) → List (List ℕ) → Type 0
Begins line [] = Unit {0}
Begins [] (word ∷ words) = ⊥
Begins (May ∷ line) (word ∷ words) = May word × Begins line words

-- what holds of the words behind a first word, by what its lines may have there: the lines are `judge`, `start`,
-- `solve E B ROUNDS SEED`, `check`, `part NAME`, `weave`, `rewind K`, `edit`, `gen KIND N SEED` and
-- `gen-solve KIND N SEED`
abbrev pub OfALine : (List (List ℕ → Type 0) → List (List ℕ) → Type 0) → List ℕ → List (List ℕ) → Type 0
OfALine Holds first words =
    MatchBool (bytes_eq first (codes "judge")) (Holds [] words)
    (MatchBool (bytes_eq first (codes "start")) (Holds [] words)
    (MatchBool (bytes_eq first (codes "solve")) (Holds solve_words words)
    (MatchBool (bytes_eq first (codes "check")) (Holds [] words)
    (MatchBool (bytes_eq first (codes "part")) (Holds part_words words)
    (MatchBool (bytes_eq first (codes "weave")) (Holds [] words)
    (MatchBool (bytes_eq first (codes "rewind")) (Holds rewind_words words)
    (MatchBool (bytes_eq first (codes "edit")) (Holds [] words)
    (MatchBool (bytes_eq first (codes "gen")) (Holds gen_words words)
    (MatchBool (bytes_eq first (codes "gen-solve")) (Holds gen_words words) ⊥)))))))))

-- the words begin some line
abbrev pub BeginsALine : List (List ℕ) → Type 0
BeginsALine [] = Unit {0}
BeginsALine (first ∷ words) = OfALine Begins first words

-- the words are the line of this command
abbrev pub IsLineOf : List (List ℕ) → Command → Type 0
IsLineOf words Judge = words ≡ codes "judge" ∷ []
IsLineOf words Start = words ≡ codes "start" ∷ []
IsLineOf words (Solve edit_workers bound_workers rounds seed) =
    (words ≡ codes "solve" ∷ decimal edit_workers ∷ decimal bound_workers ∷ decimal rounds ∷ decimal seed ∷ [])
    × (edit_workers ≤ 16) × (bound_workers ≤ 16) × (rounds ≤ 1000) × (seed < 2 ^ 64)
IsLineOf words Check = words ≡ codes "check" ∷ []
IsLineOf words (Part name) = words ≡ codes "part" ∷ part_word name ∷ []
IsLineOf words Weave = words ≡ codes "weave" ∷ []
IsLineOf words (Rewind k) = (words ≡ codes "rewind" ∷ decimal k ∷ []) × (k ≤ 200000)
IsLineOf words EditSession = words ≡ codes "edit" ∷ []
IsLineOf words (GenSolve kind n seed) = (words ≡ codes "gen-solve" ∷ kind_word kind ∷ decimal n ∷ decimal seed ∷ []) × (3 ≤ n) × (n ≤ 5000) × (seed < 2 ^ 64)
IsLineOf words (Gen kind n seed) = (words ≡ codes "gen" ∷ kind_word kind ∷ decimal n ∷ decimal seed ∷ []) × (3 ≤ n) × (n ≤ 5000) × (seed < 2 ^ 64)

-- the words are the line of no command
abbrev pub IsNoLine : List (List ℕ) → Type 0
IsNoLine words = (command : Command) → ¬ IsLineOf words command

-- The words are no line: k is the position of the first one that no line allows after those before it, or the number of
-- words where they begin a longer line.
pub record IsFaultAt (words : List (List ℕ)) (k : ℕ) : Type 0 where
  pub within : k ≤ length words
  pub before : BeginsALine (take k words)
  pub fault : (k ≡ length words) ⊎ ¬ BeginsALine (take (k + 1) words)
  pub none : IsNoLine words
