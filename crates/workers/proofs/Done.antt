-- What came of all jobs.
use Rattle.std.proofs.Common.{◌≡◌, ℕ, zero, suc, ◌+◌, ◌<◌, ◌≤◌, List, [], ◌∷◌, ◌++◌, length, map, take, drop, Some, None, sym, ◌∙◌, ap, refl, subst, arith}
use Rattle.std.specs.Prelude.{slice_index_or, All}
use Rattle.std.specs.List.{AllByRecursion}
use Rattle.std.proofs.lemmas.List.Elements.{All-from_recursion}
use Rattle.index_sets.specs.Indices.{numbers_from}
use Rattle.cost_defs.specs.Costs.{Costed}
use Rattle.price_defs.specs.declared.row.Certificate.{Certificate}
use Rattle.vertex_claims.specs.Holding.{ClaimsSeen}
use Rattle.seats.specs.declared.cells.Root.{Root}
use Rattle.seats.specs.Seats.{SeatSeen}
use Rattle.workers.specs.declared.jobs.Job.{Job}
use Rattle.workers.specs.declared.jobs.Job.TheVariants.{Edit, Bound}
use Rattle.workers.specs.Worked.{HaveWorked, ArePriced}
use Rattle.workers.specs.Jobs.{edit_job, bound_job, IsReady, IsDone, HasEnded, passes_in, found_in}

-- all jobs can be done
bounds_ready : (b : ClaimsSeen Root) (k n : ℕ) → k + n ≤ 17 → AllByRecursion (IsReady b) (map bound_job (numbers_from k n))
bounds_ready b k zero few = tt
bounds_ready b k (suc n) few = (omega arith, bounds_ready b (suc k) n (omega arith))

jobs_ready : (b : ClaimsSeen Root) (ps : List SeatSeen) (k n : ℕ) → k + n ≤ 17 → AllByRecursion (λ (p : SeatSeen). p.of ≡ b) ps
    → AllByRecursion (IsReady b) (map edit_job ps ++ map bound_job (numbers_from k n))
jobs_ready b [] k n few of = bounds_ready b k n few
jobs_ready b (p ∷ ps) k n few of = (of.0, jobs_ready b ps k n few of.1)

pub all_ready : (b : ClaimsSeen Root) (ps : List SeatSeen) (n : ℕ) → n ≤ 16 → AllByRecursion (λ (p : SeatSeen). p.of ≡ b) ps
    → All (IsReady b) (map edit_job ps ++ map bound_job (numbers_from 1 n))
all_ready b ps n few of = All-from_recursion (IsReady b) (map edit_job ps ++ map bound_job (numbers_from 1 n)) (jobs_ready b ps 1 n (omega (arith, few)) of)

-- the jobs after they were done, one by one
abbrev AllDone : ClaimsSeen Root → List Costed → (start : Certificate) → (rounds seed : ℕ) → (old new : List Job) → Type 0
AllDone b D start rounds seed [] [] = Unit {0}
AllDone b D start rounds seed [] (y ∷ ys) = ⊥
AllDone b D start rounds seed (x ∷ xs) [] = ⊥
AllDone b D start rounds seed (x ∷ xs) (y ∷ ys) = IsDone b D start rounds seed x y × AllDone b D start rounds seed xs ys

each_done : (b : ClaimsSeen Root) (D : List Costed) (start : Certificate) (rounds seed : ℕ) (old new : List Job) → length new ≡ length old
    → ((i : ℕ) (d : Job) → i < length old → IsDone b D start rounds seed (slice_index_or old i d) (slice_index_or new i d)) → AllDone b D start rounds seed old new
each_done b D start rounds seed [] [] len each = tt
each_done b D start rounds seed [] (y ∷ ys) len each = absurd (omega (arith, len))
each_done b D start rounds seed (x ∷ xs) [] len each = absurd (omega (arith, len))
each_done b D start rounds seed (x ∷ xs) (y ∷ ys) len each =
    (each 0 x (omega arith), each_done b D start rounds seed xs ys (omega (arith, len)) (λ i d low. each (suc i) d (omega (arith, low))))

-- what the bound workers found
bounds_done : (b : ClaimsSeen Root) (D : List Costed) (start : Certificate) (rounds seed k n : ℕ) (new : List Job)
    → AllDone b D start rounds seed (map bound_job (numbers_from k n)) new → AllByRecursion HasEnded new
    → (passes_in new ≡ []) × (length (found_in new) ≡ n) × ArePriced b.root.points D start rounds seed k (found_in new)
bounds_done b D start rounds seed k zero [] done ended = (refl, refl, tt)
bounds_done b D start rounds seed k zero (y ∷ ys) done ended = absurd done
bounds_done b D start rounds seed k (suc n) [] done ended = absurd done
bounds_done b D start rounds seed k (suc n) (Edit q f ∷ ys) done ended = absurd done.0
bounds_done b D start rounds seed k (suc n) (Bound v None ∷ ys) done ended = absurd ended.0
bounds_done b D start rounds seed k (suc n) (Bound v (Some C) ∷ ys) done ended =
    let r = bounds_done b D start rounds seed (suc k) n ys done.1 ended.1 in
    (r.0, ap suc r.1, (done.0.1, r.2))

abbrev pub HasCome : ClaimsSeen Root → List Costed → (start : Certificate) → (rounds seed n : ℕ) → List SeatSeen → List Job → Type 0
HasCome b D start rounds seed n ps new =
    HaveWorked b D rounds seed ps (passes_in new) × (length (found_in new) ≡ n) × ArePriced b.root.points D start rounds seed 1 (found_in new)

jobs_done : (b : ClaimsSeen Root) (D : List Costed) (start : Certificate) (rounds seed n : ℕ) (ps : List SeatSeen) (new : List Job)
    → AllDone b D start rounds seed (map edit_job ps ++ map bound_job (numbers_from 1 n)) new → AllByRecursion HasEnded new → HasCome b D start rounds seed n ps new
jobs_done b D start rounds seed n [] new done ended =
    let r = bounds_done b D start rounds seed 1 n new done ended in
    (subst (λ (qs : List SeatSeen). HaveWorked b D rounds seed [] qs) (sym r.0) tt, r.1, r.2)
jobs_done b D start rounds seed n (p ∷ ps) [] done ended = absurd done
jobs_done b D start rounds seed n (p ∷ ps) (Edit q f ∷ ys) done ended =
    let r : HasCome b D start rounds seed n ps ys = jobs_done b D start rounds seed n ps ys done.1 ended.1 in
    ((done.0 ended.0, r.0), r.1, r.2)
jobs_done b D start rounds seed n (p ∷ ps) (Bound v u ∷ ys) done ended = absurd done.0

pub all_come : (b : ClaimsSeen Root) (D : List Costed) (start : Certificate) (rounds seed n : ℕ) (ps : List SeatSeen) (old new : List Job)
    → old ≡ map edit_job ps ++ map bound_job (numbers_from 1 n) → length new ≡ length old
    → ((i : ℕ) (d : Job) → i < length old → IsDone b D start rounds seed (slice_index_or old i d) (slice_index_or new i d))
    → AllByRecursion HasEnded new → HasCome b D start rounds seed n ps new
all_come b D start rounds seed n ps old new is len each ended =
    jobs_done b D start rounds seed n ps new
    (subst (λ (js : List Job). AllDone b D start rounds seed js new) is (each_done b D start rounds seed old new len each)) ended

-- a slice that was lent out whole comes back whole
take_first : (xs zs : List Job) (n : ℕ) → length xs ≡ n → take n (xs ++ zs) ≡ xs
take_first [] zs zero len = refl
take_first [] zs (suc n) len = absurd (omega (arith, len))
take_first (x ∷ xs) zs zero len = absurd (omega (arith, len))
take_first (x ∷ xs) zs (suc n) len = ap (λ (js : List Job). x ∷ js) (take_first xs zs n (omega (arith, len)))

pub lent_come : (b : ClaimsSeen Root) (D : List Costed) (start : Certificate) (rounds seed n len : ℕ) (ps : List SeatSeen) (made lent new : List Job)
    → made ≡ map edit_job ps ++ map bound_job (numbers_from 1 n) → lent ≡ made → length new ≡ length lent → length lent ≡ len
    → ((i : ℕ) (d : Job) → i < length lent → IsDone b D start rounds seed (slice_index_or lent i d) (slice_index_or new i d))
    → AllByRecursion HasEnded (take len (new ++ drop (length new) made)) → HasCome b D start rounds seed n ps (take len (new ++ drop (length new) made))
lent_come b D start rounds seed n len ps made lent new is same count whole each ended =
    let back : take len (new ++ drop (length new) made) ≡ new = take_first new (drop (length new) made) len (count ∙ whole) in
    subst (HasCome b D start rounds seed n ps) (sym back)
    (all_come b D start rounds seed n ps lent new (same ∙ is) count each (subst (AllByRecursion HasEnded) back ended))
