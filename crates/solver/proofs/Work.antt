-- The journal of a finished board: what it was, and then the commits of its workers.
use Rattle.std.proofs.Common.{◌≡◌, ℕ, zero, suc, ◌+◌, ◌*◌, ◌<◌, ◌≤◌, Bool, true, false, nat_eq, if◌then◌else◌, List, [], ◌∷◌, ◌++◌, length, length-append, filter, map, inl, inr, sym, ◌∙◌, ap, ap₂, refl, subst, arith}
use Rattle.std.specs.List.{AllByRecursion}
use Rattle.std.proofs.lemmas.Bool.{false≢true, cases_lt}
use Rattle.std.proofs.lemmas.Bool.Decides.{Decides-eqb}
use Rattle.std.proofs.lemmas.List.Elements.{All-from_recursion, filter-append}
use Rattle.index_sets.specs.Indices.{numbers_from}
use Rattle.index_sets.specs.Entries.{entries_of}
use Rattle.plane.specs.declared.coordinates.Point.{Point}
use Rattle.plane.specs.declared.segment.Pair.{Pair}
use Rattle.cost_defs.specs.Costs.{Costed}
use Rattle.journal_defs.specs.declared.commit.Commit.{Commit}
use Rattle.journal_defs.specs.Journal.{IsLegalJournal}
use Rattle.chronicle.specs.History.{IsCaller}
use Rattle.vertex_claims.specs.Holding.{ClaimsSeen}
use Rattle.seats.specs.declared.cells.Root.{Root}
use Rattle.seats.specs.Ground.{caller_of}
use Rattle.seats.specs.Seats.{SeatSeen}
use Rattle.board.specs.Made.{IsBoardOf, first_pass}
use Rattle.board.specs.Ended.{IsTold, IsFinished}
use Rattle.plan_defs.specs.Plans as plans
use Rattle.replay.specs.Replayed.{Replayed, IsCore}
use Rattle.round_defs.specs.Rounds.{IsSearched}
use Rattle.run_defs.specs.WorkedRun.{IsWorkers}
use Rattle.run_defs.proofs.laws.Dearer.{no_dearer_too}
use Rattle.lower_bounds.specs.declared.bests.Search.{Search}
use Rattle.workers.specs.Worked.{HasWorked, HaveWorked, IsFoundFrom, ArePriced}
use Rattle.price_defs.specs.declared.row.Certificate.{Certificate}
use Rattle.lower_bounds.specs.Found.{AreFound}
use Rattle.std.specs.Prelude.{slice_index_or}
use Rattle.solver.specs.Working.{HasBeenWorked}

-- its Keeps cost no more than its Drops
abbrev IsCheap : List Costed → Commit → Type 0
IsCheap D c = plans.IsNoDearer D c.edits

-- the caller's entries, where it isn't 0
entries_is : (k : ℕ) (J : List Commit) → 1 ≤ k → entries_of caller_of k J ≡ filter (λ (c : Commit). nat_eq (caller_of c) k) J
entries_is k J some =
    let e : nat_eq k 0 ≡ false = not_zero k some in
    ap (λ (t : Bool). if t then [] else filter (λ (c : Commit). nat_eq (caller_of c) k) J) e
  where
    not_zero : (k : ℕ) → 1 ≤ k → nat_eq k 0 ≡ false
    not_zero k some = cases (nat_eq k 0) refl
      where
        cases : (t : Bool) → nat_eq k 0 ≡ t → nat_eq k 0 ≡ false
        cases true is = absurd (let z : k ≡ 0 = (Decides-eqb k 0).0 is in omega (arith, z, some))
        cases false is = is

cancel : {X : Type 0} (xs ys zs : List X) → xs ++ ys ≡ xs ++ zs → ys ≡ zs
cancel [] ys zs is = is
cancel {X} (x ∷ xs) ys zs is = cancel xs ys zs (ap (tail_of) is)
  where
    tail_of : List X → List X
    tail_of [] = []
    tail_of (y ∷ ys) = ys

entries_append : (k : ℕ) (J L : List Commit) → 1 ≤ k → entries_of caller_of k (J ++ L) ≡ entries_of caller_of k J ++ entries_of caller_of k L
entries_append k J L some =
    entries_is k (J ++ L) some
    ∙ filter-append (λ (c : Commit). nat_eq (caller_of c) k) J L
    ∙ sym (ap₂ (λ (a b : List Commit). a ++ b) (entries_is k J some) (entries_is k L some))

-- what each pass of the callers from s on is told of the later entries
abbrev AreCheap : List Costed → (later : List Commit) → (s n : ℕ) → Type 0
AreCheap D later s n = (k : ℕ) → s ≤ k → k < s + n → AllByRecursion (IsCheap D) (entries_of caller_of k later)

one_cheap : (b : ClaimsSeen Root) (D : List Costed) (rounds seed k : ℕ) (J later : List Commit) (q : SeatSeen) → 1 ≤ k
    → HasWorked b D rounds seed (first_pass b J k) q → IsTold (J ++ later) q → AllByRecursion (IsCheap D) (entries_of caller_of k later)
one_cheap b D rounds seed k J later q some worked told =
    let (n, few, added) = worked.added in
    let theirs : entries_of caller_of k J ++ entries_of caller_of k later ≡ entries_of caller_of k J ++ added.more =
    sym (entries_append k J later some) ∙ ap (λ (c : ℕ). entries_of caller_of c (J ++ later)) (sym worked.further.caller) ∙ told.mine ∙ added.is in
    subst (AllByRecursion (IsCheap D)) (sym (cancel (entries_of caller_of k J) (entries_of caller_of k later) added.more theirs)) added.cheap

all_cheap : (b : ClaimsSeen Root) (D : List Costed) (rounds seed s n : ℕ) (J later : List Commit) (qs : List SeatSeen) → 1 ≤ s
    → HaveWorked b D rounds seed (map (first_pass b J) (numbers_from s n)) qs → AllByRecursion (IsTold (J ++ later)) qs → AreCheap D later s n
all_cheap b D rounds seed s zero J later qs some worked told = λ k low high. absurd (omega arith)
all_cheap b D rounds seed s (suc n) J later [] some worked told = absurd worked
all_cheap b D rounds seed s (suc n) J later (q ∷ qs) some worked told = λ k low high. elim (cases_lt s k) [
  | inl more ↦ all_cheap b D rounds seed (suc s) n J later qs (omega arith) worked.1 told.1 k (omega (arith, more)) (omega (arith, high))
  | inr same ↦ (let is : s ≡ k = omega (arith, same, low) in
      subst (λ (m : ℕ). AllByRecursion (IsCheap D) (entries_of caller_of m later)) is (one_cheap b D rounds seed s J later q some worked.0 told.0))
]

-- so all later entries are
later_workers : (D : List Costed) (E : ℕ) (later : List Commit) → AllByRecursion (λ (c : Commit). IsCaller E (caller_of c)) later → AreCheap D later 1 E
    → AllByRecursion (IsWorkers D E) later
later_workers D E [] callers cheap = tt
later_workers D E (c ∷ later) callers cheap = (
  (callers.0.0, callers.0.1, no_dearer_too D c.edits (own (cheap c.caller callers.0.0 (let high : c.caller ≤ E = callers.0.1 in omega (arith, high))))),
  later_workers D E later callers.1 (λ k low high. rest k low (cheap k low high)),
)
  where
    picked : (k : ℕ) → 1 ≤ k → AllByRecursion (IsCheap D) (entries_of caller_of k (c ∷ later)) → AllByRecursion (IsCheap D) (filter (λ (d : Commit). nat_eq (caller_of d) k) (c ∷ later))
    picked k some all = subst (AllByRecursion (IsCheap D)) (entries_is k (c ∷ later) some) all

    own : AllByRecursion (IsCheap D) (entries_of caller_of c.caller (c ∷ later)) → IsCheap D c
    own all =
        let same : nat_eq (caller_of c) c.caller ≡ true = (Decides-eqb c.caller c.caller).1 refl in
        (subst (λ (t : Bool). AllByRecursion (IsCheap D) (if t then c ∷ filter (λ (d : Commit). nat_eq (caller_of d) c.caller) later else filter (λ (d : Commit). nat_eq (caller_of d) c.caller) later)) same
        (picked c.caller callers.0.0 all)).0

    rest : (k : ℕ) → 1 ≤ k → AllByRecursion (IsCheap D) (entries_of caller_of k (c ∷ later)) → AllByRecursion (IsCheap D) (entries_of caller_of k later)
    rest k some all =
        subst (AllByRecursion (IsCheap D)) (sym (entries_is k later some))
        (go (nat_eq (caller_of c) k) (picked k some all))
      where
        go : (t : Bool) → AllByRecursion (IsCheap D) (if t then c ∷ filter (λ (d : Commit). nat_eq (caller_of d) k) later else filter (λ (d : Commit). nat_eq (caller_of d) k) later)
            → AllByRecursion (IsCheap D) (filter (λ (d : Commit). nat_eq (caller_of d) k) later)
        go true all = all.1
        go false all = all

-- entries of caller 1 alone are all there are
not_empty : (c : Commit) (L : List Commit) (t : Bool) → t ≡ true → (if t then c ∷ L else L) ≡ [] → ⊥
not_empty c L true holds is = (let m : suc (length L) ≡ 0 = ap (λ (xs : List Commit). length xs) is in omega (arith, m))
not_empty c L false holds is = false≢true holds

all_of_one : (L : List Commit) → AllByRecursion (λ (c : Commit). IsCaller 1 (caller_of c)) L → entries_of caller_of 1 L ≡ [] → L ≡ []
all_of_one [] callers none = refl
all_of_one (c ∷ L) callers none =
    let low : 1 ≤ c.caller = callers.0.0 in
    let high : c.caller ≤ 1 = callers.0.1 in
    let one : c.caller ≡ 1 = omega (arith, low, high) in
    absurd (not_empty c (filter (λ (d : Commit). nat_eq (caller_of d) 1) L) (nat_eq (caller_of c) 1) ((Decides-eqb c.caller 1).1 one) none)

later_split : (P : Commit → Type 0) (A B : List Commit) → AllByRecursion P (A ++ B) → AllByRecursion P B
later_split P [] B all = all
later_split P (a ∷ A) B all = later_split P A B all.1

append_twice : (A B C : List Commit) → (A ++ B) ++ C ≡ A ++ (B ++ C)
append_twice [] B C = refl
append_twice (a ∷ A) B C = ap (λ (xs : List Commit). a ∷ xs) (append_twice A B C)

-- one pass alone has seen all
seen_all : (b : ClaimsSeen Root) (D : List Costed) (rounds seed : ℕ) (J later : List Commit) (q : SeatSeen)
    → HasWorked b D rounds seed (first_pass b J 1) q → IsTold (J ++ later) q → AllByRecursion (λ (c : Commit). IsCaller 1 (caller_of c)) later → J ++ later ≡ q.seen
seen_all b D rounds seed J later q worked told callers =
    let (after, begins) = told.begins in
    let (seen, grew) = worked.further.seen in
    let caller : q.caller ≡ 1 = worked.further.caller in
    let mine : q.mine ≡ entries_of caller_of 1 q.seen = worked.valid.seat.mine ∙ ap (λ (c : ℕ). entries_of caller_of c q.seen) caller in
    let whole : entries_of caller_of 1 (J ++ later) ≡ q.mine = ap (λ (c : ℕ). entries_of caller_of c (J ++ later)) (sym caller) ∙ told.mine in
    let none : entries_of caller_of 1 after ≡ [] =
    cancel (entries_of caller_of 1 q.seen) (entries_of caller_of 1 after) []
    (sym (entries_append 1 q.seen after (omega arith)) ∙ ap (entries_of caller_of 1) (sym begins) ∙ whole ∙ mine ∙ sym (append_none (entries_of caller_of 1 q.seen))) in
    let parts : later ≡ seen ++ after =
    cancel J later (seen ++ after) (begins ∙ ap (λ (xs : List Commit). xs ++ after) grew ∙ append_twice J seen after) in
    let empty : after ≡ [] =
    all_of_one after (later_split (λ (c : Commit). IsCaller 1 (caller_of c)) seen after (subst (AllByRecursion (λ (c : Commit). IsCaller 1 (caller_of c))) parts callers)) none in
    begins ∙ ap (λ (xs : List Commit). q.seen ++ xs) empty ∙ append_none q.seen
  where
    append_none : (xs : List Commit) → xs ++ [] ≡ xs
    append_none [] = refl
    append_none (x ∷ xs) = ap (λ (ys : List Commit). x ∷ ys) (append_none xs)

-- the search of one pass alone
lone_search : (b : ClaimsSeen Root) (D : List Costed) (rounds seed n : ℕ) (J later : List Commit) (qs : List SeatSeen) → n ≡ 1 → b.callers ≡ n → length J + 4 * rounds ≤ b.root.room
    → HaveWorked b D rounds seed (map (first_pass b J) (numbers_from 1 n)) qs → AllByRecursion (IsTold (J ++ later)) qs
    → AllByRecursion (λ (c : Commit). IsCaller n (caller_of c)) later → IsSearched b.root.points D b.root.start.items J rounds seed (J ++ later)
lone_search b D rounds seed zero J later qs is made room worked told callers = absurd (omega (arith, is))
lone_search b D rounds seed (suc (suc n)) J later qs is made room worked told callers = absurd (omega (arith, is))
lone_search b D rounds seed (suc zero) J later [] is made room worked told callers = absurd worked
lone_search b D rounds seed (suc zero) J later (q ∷ qs) is made room worked told callers =
    subst (λ (L : List Commit). IsSearched b.root.points D b.root.start.items J rounds seed L)
    (sym (seen_all b D rounds seed J later q worked.0 told.0 callers))
    (worked.0.searched made room)

-- the finished core of a board on which passes worked
pub finished_work : (D : List Costed) (E : ℕ) (how : Search) (core new : Replayed) (b : ClaimsSeen Root) (ps qs : List SeatSeen)
    → IsCore new → IsBoardOf core E (length core.journal + 4 * E * how.rounds) b → ps ≡ map (first_pass b core.journal) (numbers_from 1 E)
    → HaveWorked b D how.rounds how.seed ps qs → IsFinished b qs new → HasBeenWorked D E how core new
finished_work D E how core new b ps qs ok board first worked finished = record {
  core = ok;
  points = finished.points ∙ board.points;
  start = finished.start ∙ board.start;
  work = record {
    work = later;
    is = is;
    workers = All-from_recursion (IsWorkers D E) later (later_workers D E later callers
        (all_cheap b D how.rounds how.seed 1 E core.journal later qs (omega arith) passes told));
    few = few;
    legal = subst (λ (S : List Point). IsLegalJournal S core.start new.journal) (finished.points ∙ board.points)
        (subst (λ (T : List Pair). IsLegalJournal new.points T new.journal) (finished.start ∙ board.start) ok.legal);
    alone = λ one.
        subst (λ (L : List Commit). IsSearched core.points D core.start core.journal how.rounds how.seed L) (sym is)
        (subst (λ (S : List Point). IsSearched S D core.start core.journal how.rounds how.seed (core.journal ++ later)) board.points
        (subst (λ (T : List Pair). IsSearched b.root.points D T core.journal how.rounds how.seed (core.journal ++ later)) board.start
        (lone_search b D how.rounds how.seed E core.journal later qs one board.callers_are (enough one) passes told callers)));
  };
}
  where
    later : List Commit
    later = finished.history.later

    is : new.journal ≡ core.journal ++ later
    is = finished.history.is ∙ ap (λ (J : List Commit). J ++ later) board.first

    callers : AllByRecursion (λ (c : Commit). IsCaller E (caller_of c)) later
    callers = subst (λ (n : ℕ). AllByRecursion (λ (c : Commit). IsCaller n (caller_of c)) later) (board.shelf.callers ∙ board.callers_are) finished.history.callers

    told : AllByRecursion (IsTold (core.journal ++ later)) qs
    told = subst (λ (J : List Commit). AllByRecursion (IsTold J) qs) is finished.told

    passes : HaveWorked b D how.rounds how.seed (map (first_pass b core.journal) (numbers_from 1 E)) qs
    passes = subst (λ (xs : List SeatSeen). HaveWorked b D how.rounds how.seed xs qs) first worked

    few : length later ≤ 4 * E * how.rounds
    few =
        let a : length new.journal ≡ length core.journal + length later = ap (λ (J : List Commit). length J) is ∙ length-append core.journal later in
        let r : length new.journal ≤ b.root.room = finished.room in
        let m : b.root.room ≡ length core.journal + 4 * E * how.rounds = board.room_is in
        omega (arith, a, r, m)

    enough : E ≡ 1 → length core.journal + 4 * how.rounds ≤ b.root.room
    enough one =
        let m : b.root.room ≡ length core.journal + 4 * E * how.rounds = board.room_is in
        let n : 4 * E * how.rounds ≡ 4 * how.rounds = ap (λ (k : ℕ). 4 * k * how.rounds) one in
        omega (arith, m, n)

-- passes of a board stay passes of it
pub passes_of : (b : ClaimsSeen Root) (J : List Commit) (s n : ℕ) → AllByRecursion (λ (p : SeatSeen). p.of ≡ b) (map (first_pass b J) (numbers_from s n))
passes_of b J s zero = tt
passes_of b J s (suc n) = (refl, passes_of b J (suc s) n)

pub worked_of : (b : ClaimsSeen Root) (D : List Costed) (rounds seed : ℕ) (ps qs : List SeatSeen) → HaveWorked b D rounds seed ps qs
    → AllByRecursion (λ (p : SeatSeen). p.of ≡ b) ps → AllByRecursion (λ (p : SeatSeen). p.of ≡ b) qs
worked_of b D rounds seed [] [] worked of = tt
worked_of b D rounds seed [] (q ∷ qs) worked of = absurd worked
worked_of b D rounds seed (p ∷ ps) [] worked of = absurd worked
worked_of b D rounds seed (p ∷ ps) (q ∷ qs) worked of = (worked.0.further.of ∙ of.0, worked_of b D rounds seed ps qs worked.1 of.1)

-- there are as many as callers
pub passes_count : (b : ClaimsSeen Root) (J : List Commit) (s n : ℕ) → length (map (first_pass b J) (numbers_from s n)) ≡ n
passes_count b J s zero = refl
passes_count b J s (suc n) = ap suc (passes_count b J (suc s) n)

priced_at : (S : List Point) (D : List Costed) (start : Certificate) (rounds seed b k : ℕ) (found : List Certificate) (d : Certificate) → ArePriced S D start rounds seed b found → k < length found
    → IsFoundFrom S D start rounds seed (b + k) (slice_index_or found k d)
priced_at S D start rounds seed b k [] d priced low = absurd (omega arith)
priced_at S D start rounds seed b zero (C ∷ found) d priced low =
    let same : b ≡ b + 0 = omega arith in subst (λ (m : ℕ). IsFoundFrom S D start rounds seed m C) same priced.0
priced_at S D start rounds seed b (suc k) (C ∷ found) d priced low =
    let same : suc b + k ≡ b + suc k = omega arith in
    subst (λ (m : ℕ). IsFoundFrom S D start rounds seed m (slice_index_or found k d)) same (priced_at S D start rounds seed (suc b) k found d priced.1 (omega arith))

-- what the bound workers found
pub all_priced : (S : List Point) (D : List Costed) (first : Certificate) (how : Search) (found : List Certificate) → length found ≡ how.workers
    → ArePriced S D first how.rounds how.seed 1 found → AreFound S D first how found
all_priced S D first how found count priced = record {
  count = count;
  each = λ k d low.
      (let f : IsFoundFrom S D first how.rounds how.seed (1 + k) (slice_index_or found k d) = priced_at S D first how.rounds how.seed 1 k found d priced (omega (arith, count, low)) in
      record { priced = f.priced; valid = f.valid; within = record { divisor = f.divisor; light = f.light } });
}
