-- How many pairs an ascending list of pairs of 5,000 points can have.
use Rattle.std.proofs.Common.{◌≡◌, ℕ, zero, suc, ◌+◌, ◌-◌, ◌*◌, ◌<◌, ◌≤◌, List, [], ◌∷◌, length, ◌⊎◌, inl, inr, refl, ap, arith}
use Rattle.std.proofs.lemmas.Bool.{cases_lt}
use Rattle.std.specs.List.{Contains}
use Rattle.plane.specs.declared.coordinates.Point.{Point}
use Rattle.plane.specs.declared.segment.Pair.{Pair}
use Rattle.plane.specs.Accepted.{AreAccepted}
use Rattle.partition_defs.specs.Ascending.{IsAscending}
use Rattle.partition_defs.specs.Triangulation.{IsTriangulation}
use Rattle.partition_defs.proofs.laws.Has.{Has, Rises, rises_of, contains_of}
use Rattle.journal_defs.specs.Edits.{State, IsSound}
use Rattle.edit_session.specs.Desks.{most_pairs}

-- how many pairs n points have
pairs_of : ℕ → ℕ
pairs_of zero = 0
pairs_of (suc n) = pairs_of n + n

twice_pairs : (n : ℕ) → 2 * pairs_of n + n ≡ n * n
unfolding pairs_of
twice_pairs zero = refl
twice_pairs (suc n) = omega (arith, twice_pairs n)

pairs_grow : (j l : ℕ) → j < l → pairs_of j + j ≤ pairs_of l
unfolding pairs_of
pairs_grow j zero h = absurd (omega arith)
pairs_grow j (suc l) h = elim (cases_lt j l) [
  | inl k ↦ omega (arith, pairs_grow j l k)
  | inr g ↦ (let e : j ≡ l = omega arith in omega (arith, ap pairs_of e))
]

-- behind the pair i-j there are the pairs that begin at i and end behind j, and those among the points behind i
behind : (xs : List Pair) (i j : ℕ) → i < j → j < 5000 → Rises xs → ((e : Pair) → Has e xs → (i < e.lo) ⊎ ((i ≡ e.lo) × (j < e.hi))) → ((e : Pair) → Has e xs → e.hi < 5000)
    → length xs ≤ pairs_of (4999 - i) + (4999 - j)
behind [] i j order low r after small = omega arith
behind (x ∷ xs) i j order low r after small =
    let own : x.hi < 5000 = small x (inl refl) in
    let ends = x.ordered in
    let rest : length xs ≤ pairs_of (4999 - x.lo) + (4999 - x.hi) = behind xs x.lo x.hi x.ordered own r.1 (λ e k. r.0 e k) (λ e k. small e (inr k)) in
    elim (after x (inl refl)) [
      | inl later ↦ (let more = pairs_grow (4999 - x.lo) (4999 - i) (omega arith) in omega (arith, more, rest))
      | inr (level, later) ↦ (let same = ap (λ k. pairs_of (4999 - k)) level in omega (arith, same, rest))
    ]

counted : (xs : List Pair) → Rises xs → ((e : Pair) → Has e xs → e.hi < 5000) → length xs ≤ 12497500
counted [] r small = omega arith
counted (x ∷ xs) r small =
    let own : x.hi < 5000 = small x (inl refl) in
    let ends = x.ordered in
    let rest : length xs ≤ pairs_of (4999 - x.lo) + (4999 - x.hi) = behind xs x.lo x.hi x.ordered own r.1 (λ e k. r.0 e k) (λ e k. small e (inr k)) in
    let more = pairs_grow (4999 - x.lo) 5000 (omega arith) in
    let all = twice_pairs 5000 in
    omega (arith, more, rest, all)

few_ascending : (S : List Point) (K : List Pair) → AreAccepted S → IsAscending K → ((e : Pair) → Contains K e → e.hi < length S) → length K ≤ most_pairs
few_ascending S K accepted rises within =
    let n : length S ≤ 5000 = accepted.count.1 in
    let few : length K ≤ 12497500 = counted K (rises_of K rises) (λ e h. (let l = within e (contains_of K e h) in omega (arith, l))) in
    omega (arith, few)

-- the kept pairs of a state are few
pub few_kept : (S : List Point) (s : State) → AreAccepted S → IsSound S s → length s.kept ≤ most_pairs
few_kept S s accepted sound = few_ascending S s.kept accepted sound.kept_ascending (λ e h. sound.triangulation.within e (sound.among e h))

pub few_segments : (S : List Point) (T : List Pair) → AreAccepted S → IsAscending T → IsTriangulation S T → length T ≤ most_pairs
few_segments S T accepted rises tri = few_ascending S T accepted rises tri.within
