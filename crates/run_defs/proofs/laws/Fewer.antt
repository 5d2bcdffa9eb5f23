-- No state has more pairs than the start.
use Rattle.std.proofs.Common.{◌≡◌, suc, ◌+◌, ◌≤◌, Bool, true, inl, inr, List, [], ◌∷◌, ◌++◌, length, length-append, filter, not, count_by, sym, ◌∙◌, subst, refl, arith}
use Rattle.std.proofs.lemmas.Bool.{cond_both, false≢true, not-true}
use Rattle.std.proofs.lemmas.List.Sums.{length-filter, count_by-le-length}
use Rattle.plane.specs.declared.coordinates.Point.{Point}
use Rattle.plane.specs.declared.segment.Pair.{Pair}
use Rattle.plane.specs.Accepted.{AreAccepted}
use Rattle.partition_defs.specs.Ascending.{ComesFirst, IsAscending}
use Rattle.partition_defs.specs.Sets.{is_same, precedes, without, with_one}
use Rattle.partition_defs.specs.Triangulation.{IsTriangulation}
use Rattle.partition_defs.proofs.laws.Has.{Has, has_of, contains_of, Rises, rises_of, never_both}
use Rattle.partition_defs.proofs.laws.Sets.{Decides-same, Decides-precedes, without_has}
use Rattle.journal_defs.specs.declared.edit.Edit.{Edit}
use Rattle.journal_defs.specs.declared.edit.Edit.TheVariants.{Drop, Keep, Flip}
use Rattle.journal_defs.specs.declared.commit.Commit.{Commit}
use Rattle.journal_defs.specs.Edits.{State, IsSound, after, IsLegal}
use Rattle.journal_defs.specs.Journal.{after_all, AreLegal, opening, replay, replay_from, AreLegalFrom, IsLegalJournal}
use Rattle.journal_defs.proofs.laws.Start.{sound_legal}

filter_fewer : (p : Pair → Bool) (K : List Pair) → length (filter p K) ≤ length K
filter_fewer p K =
    let n : length (filter p K) ≡ count_by p K = length-filter p K in
    let m : count_by p K ≤ length K = count_by-le-length p K in
    omega (arith, n, m)

-- two tests that never both hold pick no more than there are
both_fewer : (p q : Pair → Bool) → ((x : Pair) → p x ≡ true → q x ≡ true → ⊥) → (K : List Pair) → length (filter p K) + length (filter q K) ≤ length K
both_fewer p q never [] = omega arith
both_fewer p q never (x ∷ K) =
    let rest : length (filter p K) + length (filter q K) ≤ length K = both_fewer p q never K in
    cond_both (p x) (x ∷ filter p K) (filter p K) (λ l. length l + length (filter q (x ∷ K)) ≤ suc (length K))
    (λ yes. cond_both (q x) (x ∷ filter q K) (filter q K) (λ l. suc (length (filter p K)) + length l ≤ suc (length K))
    (λ too. absurd (never x yes too)) (λ _. omega (arith, rest)))
    (λ _. cond_both (q x) (x ∷ filter q K) (filter q K) (λ l. length (filter p K) + length l ≤ suc (length K))
    (λ _. omega (arith, rest)) (λ _. omega (arith, rest)))

with_length : (e : Pair) (K : List Pair) → length (with_one e K) ≤ length K + 1
unfolding with_one
with_length e K =
    let low = filter (λ (f : Pair). precedes f e) K in
    let high = filter (λ (f : Pair). precedes e f) K in
    let n : length (low ++ e ∷ high) ≡ length low + length (e ∷ high) = length-append low (e ∷ high) in
    let m : length low + length high ≤ length K = both_fewer (λ (f : Pair). precedes f e) (λ (f : Pair). precedes e f)
    (λ x a b. never_both x e ((Decides-precedes x e).0 a) ((Decides-precedes e x).0 b)) K in
    omega (arith, n, m)

without_length : (e : Pair) (K : List Pair) → Has e K → length (without e K) + 1 ≤ length K
unfolding without
without_length e K here = go K here
  where
    left : Pair → Bool
    left f = not (is_same f e)

    go : (K : List Pair) → Has e K → length (filter left K) + 1 ≤ length K
    go [] here = absurd here
    go (x ∷ K) here =
        cond_both (left x) (x ∷ filter left K) (filter left K) (λ l. length l + 1 ≤ suc (length K))
        (λ stays. elim here [
          | inl same ↦ absurd (false≢true (sym (not-true (is_same x e) stays) ∙ (Decides-same x e).1 same))
          | inr there ↦ (let m : length (filter left K) + 1 ≤ length K = go K there in omega (arith, m))
        ])
        (λ _. let m : length (filter left K) ≤ length K = filter_fewer left K in omega (arith, m))

-- an ascending list whose pairs another has is no longer
pub among_fewer : (xs ys : List Pair) → Rises xs → ((e : Pair) → Has e xs → Has e ys) → length xs ≤ length ys
among_fewer [] ys rises f = omega arith
among_fewer (x ∷ xs) ys rises f =
    let rest : length xs ≤ length (without x ys) = among_fewer xs (without x ys) rises.1
    (λ e h. without_has x e ys (f e (inr h)) (λ same. (let o : ComesFirst x x = subst (λ (z : Pair). ComesFirst x z) same (rises.0 e h) in never_both x x o o))) in
    let one : length (without x ys) + 1 ≤ length ys = without_length x ys (f x (inl refl)) in
    omega (arith, rest, one)

after_fewer : (S : List Point) (s : State) (e : Edit) → IsLegal S s e → length (after e s).all ≤ length s.all
after_fewer S s (Drop e) legal = omega arith
after_fewer S s (Keep e) legal = omega arith
after_fewer S s (Flip e f) legal =
    let a : length (with_one f (without e s.all)) ≤ length (without e s.all) + 1 = with_length f (without e s.all) in
    let b : length (without e s.all) + 1 ≤ length s.all = without_length e s.all (has_of s.all e legal.spare.there) in
    omega (arith, a, b)

all_fewer : (S : List Point) (s : State) (es : List Edit) → AreLegal S s es → length (after_all es s).all ≤ length s.all
all_fewer S s [] legal = omega arith
all_fewer S s (e ∷ es) legal =
    let a : length (after_all es (after e s)).all ≤ length (after e s).all = all_fewer S (after e s) es legal.1 in
    let b : length (after e s).all ≤ length s.all = after_fewer S s e legal.0 in
    omega (arith, a, b)

replay_fewer : (S : List Point) (s : State) (J : List Commit) → AreLegalFrom S s J → length (replay_from s J).all ≤ length s.all
replay_fewer S s [] legal = omega arith
replay_fewer S s (c ∷ J) legal =
    let a : length (replay_from (after_all c.edits s) J).all ≤ length (after_all c.edits s).all = replay_fewer S (after_all c.edits s) J legal.1 in
    let b : length (after_all c.edits s).all ≤ length s.all = all_fewer S s c.edits legal.0 in
    omega (arith, a, b)

pub kept_fewer : (S : List Point) (start : List Pair) (J : List Commit) → AreAccepted S → IsAscending start → IsTriangulation S start
    → IsLegalJournal S start J → length (replay start J).kept ≤ length start
kept_fewer S start J accepted rises tri legal =
    let so : IsSound S (replay start J) = sound_legal S start J accepted rises tri legal.edits in
    let a : length (replay start J).kept ≤ length (replay start J).all = among_fewer (replay start J).kept (replay start J).all (rises_of (replay start J).kept so.kept_ascending)
    (λ e h. has_of (replay start J).all e (so.among e (contains_of (replay start J).kept e h))) in
    let b : length (replay start J).all ≤ length start = replay_fewer S (opening start) J legal.edits in
    omega (arith, a, b)
