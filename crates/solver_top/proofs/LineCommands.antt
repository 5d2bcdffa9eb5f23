-- The command of a line is one, and what it answers with its input read or left alone.
use Rattle.std.proofs.Common.{◌≡◌, ℕ, ◌+◌, ◌<◌, ◌≤◌, ◌^◌, List, [], ◌∷◌, length, codes, Option, Some, Bool, true, false, cond, bytes_eq, sym, ◌∙◌, ap, subst, arith, refl, inl, inr}
use Rattle.std.specs.Fmt.{decimal}
use Rattle.std.proofs.lemmas.Fmt.{decimal_injective}
use Rattle.generator.specs.declared.kinds.Kind.{Kind}
use Rattle.generator.specs.declared.kinds.Kind.TheVariants.{Scatter, Grid, Ring, Wide}
use Rattle.generator.specs.Names.{kind_word}
use Rattle.solver_top.specs.declared.words.Command.{Command}
use Rattle.solver_top.specs.declared.words.Command.TheVariants.{Judge, Start, Solve, Check, Part, Weave, Rewind, EditSession, Gen, GenSolve}
use Rattle.report_io.specs.declared.report.Part.{Part as ReportPart}
use Rattle.report_io.specs.declared.report.Part.TheVariants as part
use Rattle.solver_top.specs.declared.status.Verdict.{Verdict}
use Rattle.solver_top.specs.Words.{part_word, IsLineOf}
use Rattle.solver_top.specs.Answers.{IsAnswerOf, IsAnswerTo, TakesInput, IsTooLong, reads_input, most_input}

-- the place of a word in a list of words that are known
abbrev place : List (List ℕ) → List ℕ → ℕ
place [] word = 0
place (known ∷ others) word = cond (bytes_eq word known) 0 (1 + place others word)

abbrev first_words : List (List ℕ)
first_words = codes "judge" ∷ codes "start" ∷ codes "gen" ∷ codes "solve" ∷ codes "gen-solve" ∷ codes "check" ∷ codes "part" ∷ codes "weave" ∷ codes "rewind" ∷ codes "edit" ∷ []

abbrev first_word : Command → List ℕ
first_word Judge = codes "judge"
first_word Start = codes "start"
first_word (Solve e b rounds seed) = codes "solve"
first_word Check = codes "check"
first_word (Part name) = codes "part"
first_word Weave = codes "weave"
first_word (Rewind k) = codes "rewind"
first_word EditSession = codes "edit"
first_word (Gen kind n seed) = codes "gen"
first_word (GenSolve kind n seed) = codes "gen-solve"

same_first : (x y : List ℕ) (xs ys : List (List ℕ)) → x ∷ xs ≡ y ∷ ys → x ≡ y
same_first x y xs ys e = cc

same_later : (x y : List ℕ) (xs ys : List (List ℕ)) → x ∷ xs ≡ y ∷ ys → xs ≡ ys
same_later x y xs ys e = cc

first_is : (words : List (List ℕ)) (command : Command) → IsLineOf words command → (later : List (List ℕ)) × (words ≡ first_word command ∷ later)
first_is words Judge line = ([], line)
first_is words Start line = ([], line)
first_is words (Solve e b rounds seed) line = (decimal e ∷ decimal b ∷ decimal rounds ∷ decimal seed ∷ [], line.0)
first_is words Check line = ([], line)
first_is words (Part name) line = (part_word name ∷ [], line)
first_is words Weave line = ([], line)
first_is words (Rewind k) line = (decimal k ∷ [], line.0)
first_is words EditSession line = ([], line)
first_is words (Gen kind n seed) line = (kind_word kind ∷ decimal n ∷ decimal seed ∷ [], line.0)
first_is words (GenSolve kind n seed) line = (kind_word kind ∷ decimal n ∷ decimal seed ∷ [], line.0)

abbrev kind_words : List (List ℕ)
kind_words = codes "scatter" ∷ codes "grid" ∷ codes "ring" ∷ codes "wide" ∷ []

-- a kind is known by its word
kind_same : (a b : Kind) → place kind_words (kind_word a) ≡ place kind_words (kind_word b) → a ≡ b
kind_same Scatter Scatter e = refl
kind_same Grid Grid e = refl
kind_same Ring Ring e = refl
kind_same Wide Wide e = refl
kind_same a b e = absurd (omega (arith, e))

-- one word behind a first word fixes the kind, the count and the seed
made_same : (make : Kind → ℕ → ℕ → Command) (first : List ℕ) (k l : Kind) (n m s t : ℕ) → n ≤ 5000 → m ≤ 5000 → s < 2 ^ 64 → t < 2 ^ 64
    → first ∷ kind_word k ∷ decimal n ∷ decimal s ∷ [] ≡ first ∷ kind_word l ∷ decimal m ∷ decimal t ∷ [] → make k n s ≡ make l m t
made_same make first k l n m s t high high' small small' all =
    let later = same_later first first _ _ all in
    let numbers = same_later (kind_word k) (kind_word l) _ _ later in
    let last = same_later (decimal n) (decimal m) _ _ numbers in
    let kinds : k ≡ l = kind_same k l (ap (place kind_words) (same_first (kind_word k) (kind_word l) _ _ later)) in
    let counts : n ≡ m = decimal_injective n m (omega (arith, high)) (omega (arith, high')) (same_first (decimal n) (decimal m) _ _ numbers) in
    let seeds : s ≡ t = decimal_injective s t small small' (same_first (decimal s) (decimal t) _ _ last) in
    ap (λ x. make x n s) kinds ∙ ap (λ x. make l x s) counts ∙ ap (λ x. make l m x) seeds

gen_same : (words : List (List ℕ)) (k l : Kind) (n m s t : ℕ) → IsLineOf words (Gen k n s) → IsLineOf words (Gen l m t) → ◌≡◌ {A = Command} (Gen k n s) (Gen l m t)
gen_same words k l n m s t (e, low, high, small) (f, low', high', small') =
    made_same (λ x y z. Gen x y z) (codes "gen") k l n m s t high high' small small' (sym e ∙ f)

gen_solve_same : (words : List (List ℕ)) (k l : Kind) (n m s t : ℕ) → IsLineOf words (GenSolve k n s) → IsLineOf words (GenSolve l m t) → ◌≡◌ {A = Command} (GenSolve k n s) (GenSolve l m t)
gen_solve_same words k l n m s t (e, low, high, small) (f, low', high', small') =
    made_same (λ x y z. GenSolve x y z) (codes "gen-solve") k l n m s t high high' small small' (sym e ∙ f)

solve_same : (words : List (List ℕ)) (e e' b b' r r' s s' : ℕ) → IsLineOf words (Solve e b r s) → IsLineOf words (Solve e' b' r' s') → ◌≡◌ {A = Command} (Solve e b r s) (Solve e' b' r' s')
solve_same words e e' b b' r r' s s' (x, edit, bound, rounds, small) (y, edit', bound', rounds', small') =
    let all : codes "solve" ∷ decimal e ∷ decimal b ∷ decimal r ∷ decimal s ∷ [] ≡ codes "solve" ∷ decimal e' ∷ decimal b' ∷ decimal r' ∷ decimal s' ∷ [] = sym x ∙ y in
    let one = same_later (codes "solve") (codes "solve") _ _ all in
    let two = same_later (decimal e) (decimal e') _ _ one in
    let three = same_later (decimal b) (decimal b') _ _ two in
    let four = same_later (decimal r) (decimal r') _ _ three in
    let es : e ≡ e' = decimal_injective e e' (omega (arith, edit)) (omega (arith, edit')) (same_first (decimal e) (decimal e') _ _ one) in
    let bs : b ≡ b' = decimal_injective b b' (omega (arith, bound)) (omega (arith, bound')) (same_first (decimal b) (decimal b') _ _ two) in
    let rs : r ≡ r' = decimal_injective r r' (omega (arith, rounds)) (omega (arith, rounds')) (same_first (decimal r) (decimal r') _ _ three) in
    let ss : s ≡ s' = decimal_injective s s' small small' (same_first (decimal s) (decimal s') _ _ four) in
    ap (λ x. Solve x b r s) es ∙ ap (λ x. Solve e' x r s) bs ∙ ap (λ x. Solve e' b' x s) rs ∙ ap (λ x. Solve e' b' r' x) ss

abbrev part_names : List (List ℕ)
part_names = codes "instance" ∷ codes "solution" ∷ codes "certificate" ∷ codes "journal" ∷ codes "summary" ∷ []

-- a part is known by its word
part_same : (a b : ReportPart) → place part_names (part_word a) ≡ place part_names (part_word b) → a ≡ b
part_same part.Instance part.Instance e = refl
part_same part.Solution part.Solution e = refl
part_same part.Certificate part.Certificate e = refl
part_same part.Journal part.Journal e = refl
part_same part.Summary part.Summary e = refl
part_same a b e = absurd (omega (arith, e))

part_line_same : (words : List (List ℕ)) (a b : ReportPart) → IsLineOf words (Part a) → IsLineOf words (Part b) → ◌≡◌ {A = Command} (Part a) (Part b)
part_line_same words a b line own =
    let later = same_later (codes "part") (codes "part") _ _ (sym line ∙ own) in
    ap (λ x. Part x) (part_same a b (ap (place part_names) (same_first (part_word a) (part_word b) _ _ later)))

rewind_same : (words : List (List ℕ)) (k m : ℕ) → IsLineOf words (Rewind k) → IsLineOf words (Rewind m) → ◌≡◌ {A = Command} (Rewind k) (Rewind m)
rewind_same words k m (line, few) (own, low) =
    let later = same_later (codes "rewind") (codes "rewind") _ _ (sym line ∙ own) in
    ap (λ x. Rewind x) (decimal_injective k m (omega (arith, few)) (omega (arith, low)) (same_first (decimal k) (decimal m) _ _ later))

same_by_place : (words : List (List ℕ)) (a b : Command) → IsLineOf words a → IsLineOf words b → place first_words (first_word a) ≡ place first_words (first_word b) → a ≡ b
same_by_place words Judge Judge line own e = refl
same_by_place words Start Start line own e = refl
same_by_place words (Solve e b r s) (Solve e' b' r' s') line own h = solve_same words e e' b b' r r' s s' line own
same_by_place words Check Check line own e = refl
same_by_place words (Part a) (Part b) line own e = part_line_same words a b line own
same_by_place words Weave Weave line own e = refl
same_by_place words (Rewind k) (Rewind m) line own e = rewind_same words k m line own
same_by_place words EditSession EditSession line own e = refl
same_by_place words (Gen k n s) (Gen l m t) line own e = gen_same words k l n m s t line own
same_by_place words (GenSolve k n s) (GenSolve l m t) line own e = gen_solve_same words k l n m s t line own
same_by_place words a b line own e = absurd (omega (arith, e))

-- words are the line of one command alone
pub line_command_same : (words : List (List ℕ)) (a b : Command) → IsLineOf words a → IsLineOf words b → a ≡ b
line_command_same words a b line own =
    let (xs, e) = first_is words a line in
    let (ys, f) = first_is words b own in
    same_by_place words a b line own (ap (place first_words) (same_first (first_word a) (first_word b) xs ys (sym e ∙ f)))

pub answer_to_same : (a b : Command) (xs : List ℕ) (verdict : Verdict) (text : List ℕ) → a ≡ b → IsAnswerTo a xs verdict text → IsAnswerTo b xs verdict text
answer_to_same a b xs verdict text e h = subst (λ x. IsAnswerTo x xs verdict text) e h

pub answer_of_same : (a b : Command) (xs : List ℕ) (left : Option (List ℕ)) (verdict : Verdict) (text : List ℕ) → a ≡ b → IsAnswerOf a xs left verdict text → IsAnswerOf b xs left verdict text
answer_of_same a b xs left verdict text e h = subst (λ x. IsAnswerOf x xs left verdict text) e h

-- a command that reads no input answers the same to each
pub answer_to_any : (command : Command) (xs ys : List ℕ) (verdict : Verdict) (text : List ℕ) → reads_input command ≡ false → IsAnswerTo command xs verdict text → IsAnswerTo command ys verdict text
answer_to_any Judge xs ys verdict text e h = absurd (cc)
answer_to_any Start xs ys verdict text e h = absurd (cc)
answer_to_any (Solve e b r s) xs ys verdict text idle h = absurd (cc)
answer_to_any Check xs ys verdict text e h = absurd (cc)
answer_to_any (Part name) xs ys verdict text e h = absurd (cc)
answer_to_any Weave xs ys verdict text e h = absurd (cc)
answer_to_any (Rewind k) xs ys verdict text e h = absurd (cc)
answer_to_any EditSession xs ys verdict text e h = absurd (cc)
answer_to_any (Gen kind n seed) xs ys verdict text e h = h
answer_to_any (GenSolve kind n seed) xs ys verdict text e h = h

-- an input that was read to its end, and the answer to it
pub answer_read : (command : Command) (reads : Bool) (bytes xs : List ℕ) (left : Option (List ℕ)) (verdict : Verdict) (text : List ℕ) → reads_input command ≡ reads → IsAnswerTo command bytes verdict text → (reads ≡ true → (bytes ≡ xs) × (length xs ≤ most_input) × (left ≡ Some [])) → (reads ≡ false → left ≡ Some xs) → IsAnswerOf command xs left verdict text
answer_read command true bytes xs left verdict text e h whole alone =
    let (same, few, at_end) = whole refl in
    subst (λ b. TakesInput b (IsAnswerTo command) xs left verdict text) (sym e) (inr (few, at_end, subst (λ ys. IsAnswerTo command ys verdict text) same h))
answer_read command false bytes xs left verdict text e h whole alone =
    subst (λ b. TakesInput b (IsAnswerTo command) xs left verdict text) (sym e) (alone refl, answer_to_any command bytes xs verdict text e h)

-- an input that is too long, and the refusal of it
pub answer_long : (command : Command) (xs : List ℕ) (left : Option (List ℕ)) (verdict : Verdict) (text : List ℕ) → reads_input command ≡ true → IsTooLong xs left verdict text → IsAnswerOf command xs left verdict text
answer_long command xs left verdict text e long = subst (λ b. TakesInput b (IsAnswerTo command) xs left verdict text) (sym e) (inl long)
