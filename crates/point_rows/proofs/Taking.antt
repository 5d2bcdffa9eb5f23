-- What Cross and Cap rows take off, as a list in order of pairs.
use Rattle.std.proofs.Common.{◌≡◌, ℕ, zero, suc, ◌+◌, ◌*◌, ◌<◌, ◌≤◌, inl, inr, List, [], ◌∷◌, ◌++◌, length, get_or, take, Bool, true, false, cond, sym, ◌∙◌, ap, ap₂, refl, arith}
use Rattle.std.specs.Prelude.{◌||◌}
use Rattle.std.specs.List.{sum_by}
use Rattle.std.specs.List.Sorted.{IsNonDecreasingBy}
use Rattle.std.proofs.lemmas.Bool.{cases_lt, false≢true}
use Rattle.std.proofs.Math.Seq.{take-length}
use Rattle.std.proofs.lemmas.List.Sums.{sum_by-append, sum_by_more, sum_by-le, sum_by-take-le, sum_by-le-sum_by}
use Rattle.plane.specs.declared.segment.Pair.{Pair}
use Rattle.partition_defs.specs.Partition.{HasEnds}
use Rattle.cost_defs.specs.Costs.{has_ends}
use Rattle.price_defs.specs.declared.row.Row.{Row}
use Rattle.price_defs.specs.declared.row.Row.TheVariants.{Half, Three, Cross, Cap}
use Rattle.price_defs.specs.Rows.{lessens, weight}
use Rattle.price_defs.specs.Limits.{AreLight}
use Rattle.price_defs.specs.Loads.{lessened, takes}
use Rattle.plane.proofs.laws.Pairs.{pair_same}
use Rattle.price_defs.proofs.laws.Tests.{has_ends_decides, same_pair, same_pair_decides}
use Rattle.point_rows.specs.Takers.{key_of, taken, takings, all_taken}
use Rattle.number_laws.proofs.ListSums.{cond_le}

-- terms that are 0 add nothing
pub sum-flat_between : {X : Type 0} (f : X → ℕ) (xs : List X) (d : X) (m n : ℕ) → m ≤ n → n ≤ length xs → ((k : ℕ) → m ≤ k → k < n → f (get_or xs k d) ≡ 0)
    → sum_by f (take n xs) ≡ sum_by f (take m xs)
sum-flat_between f xs d m zero le len never = ap (λ k. sum_by f (take k xs)) (let e : zero ≡ m = omega arith in e)
sum-flat_between f xs d m (suc n) le len never = elim (cases_lt n m) [
  | inl l ↦ ap (λ k. sum_by f (take k xs)) (let e : suc n ≡ m = omega arith in e)
  | inr g ↦
      let s : suc n ≡ n + 1 = omega arith in
      let e : sum_by f (take (n + 1) xs) ≡ sum_by f (take n xs) + f (get_or xs n d) = sum_by_more f xs n d (omega arith) in
      let z : f (get_or xs n d) ≡ 0 = never n (omega arith) (omega arith) in
      let i : sum_by f (take n xs) ≡ sum_by f (take m xs) = sum-flat_between f xs d m n (omega arith) (omega arith) (λ k a b. never k a (omega arith)) in
      ap (λ k. sum_by f (take k xs)) s ∙ e ∙ omega (arith, z, i)
]

-- the terms of a sum for the pair e
abbrev pub of_pair : Pair → Pair × ℕ → ℕ
of_pair e x = cond (has_ends x.0 e.lo e.hi) x.1 0

key_same : (f e : Pair) → HasEnds f e.lo e.hi → key_of f ≡ key_of e
key_same f e (inl h) = ap₂ (λ a b. a * 4294967296 + b) h.0 h.1
key_same f e (inr h) = absurd (omega (arith, h.0, h.1, f.ordered, e.ordered))

-- a pair with another place isn't this pair
pub other_place : (e : Pair) (x : Pair × ℕ) → (key_of x.0 ≡ key_of e → ⊥) → of_pair e x ≡ 0
other_place e x never = elim (has_ends x.0 e.lo e.hi) as (λ t. has_ends x.0 e.lo e.hi ≡ t → cond t x.1 0 ≡ 0) [
  | true ↦ λ t. absurd (never (key_same x.0 e ((has_ends_decides x.0 e.lo e.hi).0 t)))
  | false ↦ λ t. refl
] refl

-- what stands before the first place that isn't less
pub none_before : (e : Pair) (list : List (Pair × ℕ)) (d : Pair × ℕ) (n : ℕ) → n ≤ length list → ((k : ℕ) → k < n → key_of (get_or list k d).0 < key_of e)
    → sum_by (of_pair e) (take n list) ≡ 0
none_before e list d n len less = sum-flat_between (of_pair e) list d 0 n (omega arith) len (λ k a b. other_place e (get_or list k d) (λ h. omega (arith, less k b, h)))

-- what stands from the first greater place on
pub none_after : (e : Pair) (list : List (Pair × ℕ)) (d : Pair × ℕ) (n : ℕ) → n < length list → IsNonDecreasingBy (λ (x : Pair × ℕ). key_of x.0) list → key_of e < key_of (get_or list n d).0
    → sum_by (of_pair e) list ≡ sum_by (of_pair e) (take n list)
none_after e list d n len sorted greater =
    sym (ap (sum_by (of_pair e)) (take-length list))
    ∙ sum-flat_between (of_pair e) list d n (length list) (omega arith) (omega arith) (λ k a b. other_place e (get_or list k d) (λ h. omega (arith, sorted n k d a b, h, greater)))

both_ends : (e f : Pair) (i j : ℕ) → has_ends e i j ≡ true → has_ends f i j ≡ true → e ≡ f
both_ends e f i j a b = elim ((has_ends_decides e i j).0 a) [
  | inl x ↦ elim ((has_ends_decides f i j).0 b) [
    | inl y ↦ pair_same e f (x.0 ∙ sym y.0) (x.1 ∙ sym y.1)
    | inr y ↦ absurd (omega (arith, x.0, x.1, y.0, y.1, e.ordered, f.ordered))
  ]
  | inr x ↦ elim ((has_ends_decides f i j).0 b) [
    | inl y ↦ absurd (omega (arith, x.0, x.1, y.0, y.1, e.ordered, f.ordered))
    | inr y ↦ pair_same e f (x.0 ∙ sym y.0) (x.1 ∙ sym y.1)
  ]
]

cond_or : (a b : Bool) (w : ℕ) → (a ≡ true → b ≡ true → ⊥) → cond a w 0 + cond b w 0 ≡ cond (a || b) w 0
cond_or true true w never = absurd (never refl refl)
cond_or true false w never = omega arith
cond_or false true w never = omega arith
cond_or false false w never = omega arith

cond_twice : (a b : Bool) (w : ℕ) → a ≡ b → cond a w 0 ≡ cond (a || b) w 0
cond_twice true b w e = refl
cond_twice false b w e = ap (λ t. cond t w 0) e

taken_cross : (e f : Pair) (w i j : ℕ) → taken (takings (Cross e f w)) i j ≡ cond (has_ends e i j || has_ends f i j) w 0
taken_cross e f w i j = elim (same_pair e f) as (λ t. same_pair e f ≡ t → taken (cond t ((e, w) ∷ []) ((e, w) ∷ (f, w) ∷ [])) i j ≡ cond (has_ends e i j || has_ends f i j) w 0) [
  | true ↦ λ t.
      let s : e ≡ f = (same_pair_decides e f).0 t in
      omega (arith, cond_twice (has_ends e i j) (has_ends f i j) w (ap (λ (x : Pair). has_ends x i j) s))
  | false ↦ λ t. omega (arith, cond_or (has_ends e i j) (has_ends f i j) w (λ a b. false≢true (sym t ∙ (same_pair_decides e f).1 (both_ends e f i j a b))))
] refl

pub taken_row : (row : Row) (i j : ℕ) → taken (takings row) i j ≡ lessened i j row
unfolding lessens
taken_row (Half p q w) i j = refl
taken_row (Three p w) i j = refl
taken_row (Cross e f w) i j = taken_cross e f w i j
taken_row (Cap e w) i j = omega arith

pub taken_more : (list : List (Pair × ℕ)) (rows : List Row) (k : ℕ) (row : Row) → row ≡ get_or rows k row → k < length rows → ((i j : ℕ) → taken list i j ≡ takes (take k rows) i j)
    → (i j : ℕ) → taken (list ++ takings row) i j ≡ takes (take (k + 1) rows) i j
taken_more list rows k row is l h i j =
    omega (arith, sum_by-append (λ (x : Pair × ℕ). cond (has_ends x.0 i j) x.1 0) list (takings row), taken_row row i j, h i j, sum_by_more (lessened i j) rows k row l, ap (lessened i j) is)

-- all that is taken off is at most twice the weights
all_of_row : (row : Row) → all_taken (takings row) ≤ 2 * weight row
all_of_row (Half p q w) = omega arith
all_of_row (Three p w) = omega arith
all_of_row (Cross e f w) = elim (same_pair e f) as (λ t. all_taken (cond t ((e, w) ∷ []) ((e, w) ∷ (f, w) ∷ [])) ≤ 2 * w) [ true ↦ omega arith | false ↦ omega arith ]
all_of_row (Cap e w) = omega arith

pub all_more : (list : List (Pair × ℕ)) (rows : List Row) (k : ℕ) (row : Row) → row ≡ get_or rows k row → k < length rows → all_taken list ≤ 2 * sum_by weight (take k rows)
    → all_taken (list ++ takings row) ≤ 2 * sum_by weight (take (k + 1) rows)
all_more list rows k row is l h =
    omega (arith, sum_by-append (λ (x : Pair × ℕ). x.1) list (takings row), all_of_row row, h, sum_by_more weight rows k row l, ap weight is)

pub all_small : (rows : List Row) → length rows ≤ 200000 → AreLight rows → 2 * sum_by weight rows ≤ 400000000000000000
all_small rows few light = let b : sum_by weight rows ≤ length rows * 1000000000000 = sum_by-le weight 1000000000000 rows light in omega arith

-- a part of a sum for one pair is at most all
pub part_small : (e : Pair) (list : List (Pair × ℕ)) (k : ℕ) → sum_by (of_pair e) (take k list) ≤ all_taken list
part_small e list k =
    let a : sum_by (of_pair e) list ≤ all_taken list = sum_by-le-sum_by (of_pair e) (λ (x : Pair × ℕ). x.1) list (λ x. cond_le (has_ends x.0 e.lo e.hi) x.1) in
    omega (arith, sum_by-take-le (of_pair e) list k)

pub part_step : (e : Pair) (list : List (Pair × ℕ)) (k sum : ℕ) (x : Pair × ℕ) → k < length list → x ≡ get_or list k x → HasEnds x.0 e.lo e.hi → sum ≡ sum_by (of_pair e) (take k list) → sum + x.1 ≤ all_taken list
part_step e list k sum x l is ends s =
    let t : of_pair e x ≡ x.1 = ap (λ b. cond b x.1 0) ((has_ends_decides x.0 e.lo e.hi).1 ends) in
    omega (arith, part_small e list (k + 1), sum_by_more (of_pair e) list k x l, ap (of_pair e) is, t, s)
