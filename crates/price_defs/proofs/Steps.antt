-- Steps of the loops over costs and rows.
use Rattle.std.proofs.Common.{◌≡◌, ℕ, ◌+◌, ◌<◌, ◌≤◌, ◌↔◌, List, length, get_or, take, Bool, true, false, cond, IsTrue, sym, ◌∙◌, ap, arith}
use Rattle.std.proofs.Common.{add-zero}
use Rattle.std.proofs.lemmas.Bool.Decides.{same_from_decides}
use Rattle.std.proofs.lemmas.List.Sums.{sum_by_more, sum_by-take-le}
use Rattle.plane.specs.declared.coordinates.Point.{Point}
use Rattle.plane.specs.declared.segment.Pair.{Pair}
use Rattle.partition_defs.specs.Partition.{HasEnds}
use Rattle.price_defs.specs.declared.row.Row.{Row}
use Rattle.cost_defs.specs.Costs.{has_ends}
use Rattle.price_defs.specs.Rows.{Counts, Lessens, counts, lessens, weight}
use Rattle.price_defs.specs.Loads.{given, lessened, gives, takes}
use Rattle.price_defs.proofs.laws.Tests.{has_ends_decides, counts_decides, lessens_decides}
use Rattle.price_defs.specs.Limits.{AreLight}
use Rattle.price_defs.proofs.laws.Values.{gives_le, takes_le}

-- a test that answers the relation is the definition's test
pub has_ends_is : (e : Pair) (i j : ℕ) (b : Bool) → (IsTrue b ↔ HasEnds e i j) → has_ends e i j ≡ b
has_ends_is e i j b h = same_from_decides (has_ends e i j) b (has_ends_decides e i j) (h.0, h.1)

pub counts_is : (S : List Point) (row : Row) (i j : ℕ) (b : Bool) → (IsTrue b ↔ Counts S row i j) → counts S row i j ≡ b
counts_is S row i j b h = same_from_decides (counts S row i j) b (counts_decides S row i j) (h.0, h.1)

pub lessens_is : (row : Row) (i j : ℕ) (b : Bool) → (IsTrue b ↔ Lessens row i j) → lessens row i j ≡ b
lessens_is row i j b h = same_from_decides (lessens row i j) b (lessens_decides row i j) (h.0, h.1)

pub given_is : (S : List Point) (row : Row) (i j : ℕ) (b : Bool) → (IsTrue b ↔ Counts S row i j) → given S i j row ≡ cond b (weight row) 0
given_is S row i j b h = ap (λ t. cond t (weight row) 0) (counts_is S row i j b h)

pub taken_is : (row : Row) (i j : ℕ) (b : Bool) → (IsTrue b ↔ Lessens row i j) → lessened i j row ≡ cond b (weight row) 0
taken_is row i j b h = ap (λ t. cond t (weight row) 0) (lessens_is row i j b h)

-- one more row
pub gives_more : (S : List Point) (rows : List Row) (k : ℕ) (row : Row) (i j : ℕ) (b : Bool) → row ≡ get_or rows k row → k < length rows → (IsTrue b ↔ Counts S row i j)
    → gives S (take (k + 1) rows) i j ≡ gives S (take k rows) i j + cond b (weight row) 0
gives_more S rows k row i j b is l h =
    sum_by_more (given S i j) rows k row l ∙ ap (λ n. gives S (take k rows) i j + n) (ap (given S i j) (sym is) ∙ given_is S row i j b h)

pub takes_more : (rows : List Row) (k : ℕ) (row : Row) (i j : ℕ) (b : Bool) → row ≡ get_or rows k row → k < length rows → (IsTrue b ↔ Lessens row i j)
    → takes (take (k + 1) rows) i j ≡ takes (take k rows) i j + cond b (weight row) 0
takes_more rows k row i j b is l h =
    sum_by_more (lessened i j) rows k row l ∙ ap (λ n. takes (take k rows) i j + n) (ap (lessened i j) (sym is) ∙ taken_is row i j b h)

-- the sum goes on
pub gives_step : (S : List Point) (rows : List Row) (k : ℕ) (row : Row) (i j sum : ℕ) (b : Bool) → row ≡ get_or rows k row → k < length rows → (IsTrue b ↔ Counts S row i j)
    → sum ≡ gives S (take k rows) i j → (b ≡ true → (new : ℕ) → new ≡ sum + weight row → new ≡ gives S (take (k + 1) rows) i j) × (b ≡ false → sum ≡ gives S (take (k + 1) rows) i j)
gives_step S rows k row i j sum b is l h e = (
  λ t new n. n ∙ ap (λ x. x + weight row) e ∙ ap (λ c. gives S (take k rows) i j + cond c (weight row) 0) (sym t) ∙ sym (gives_more S rows k row i j b is l h),
  λ t. e ∙ sym (gives_more S rows k row i j b is l h ∙ ap (λ c. gives S (take k rows) i j + cond c (weight row) 0) t ∙ add-zero (gives S (take k rows) i j)),
)

pub takes_step : (rows : List Row) (k : ℕ) (row : Row) (i j sum : ℕ) (b : Bool) → row ≡ get_or rows k row → k < length rows → (IsTrue b ↔ Lessens row i j)
    → sum ≡ takes (take k rows) i j → (b ≡ true → (new : ℕ) → new ≡ sum + weight row → new ≡ takes (take (k + 1) rows) i j) × (b ≡ false → sum ≡ takes (take (k + 1) rows) i j)
takes_step rows k row i j sum b is l h e = (
  λ t new n. n ∙ ap (λ x. x + weight row) e ∙ ap (λ c. takes (take k rows) i j + cond c (weight row) 0) (sym t) ∙ sym (takes_more rows k row i j b is l h),
  λ t. e ∙ sym (takes_more rows k row i j b is l h ∙ ap (λ c. takes (take k rows) i j + cond c (weight row) 0) t ∙ add-zero (takes (take k rows) i j)),
)

-- what is summed next stays small
pub gives_small : (S : List Point) (rows : List Row) (k : ℕ) (row : Row) (i j sum : ℕ) (b : Bool) → AreLight rows → length rows ≤ 200000 → row ≡ get_or rows k row → k < length rows
    → (IsTrue b ↔ Counts S row i j) → b ≡ true → sum ≡ gives S (take k rows) i j → sum + weight row ≤ 200000000000000000
gives_small S rows k row i j sum b light few is l h t e =
    let a : gives S (take (k + 1) rows) i j ≡ gives S (take k rows) i j + cond b (weight row) 0 = gives_more S rows k row i j b is l h in
    let c : cond b (weight row) 0 ≡ weight row = ap (λ x. cond x (weight row) 0) t in
    omega (arith, sum_by-take-le (given S i j) rows (k + 1), gives_le S rows i j light few)

pub takes_small : (rows : List Row) (k : ℕ) (row : Row) (i j sum : ℕ) (b : Bool) → AreLight rows → length rows ≤ 200000 → row ≡ get_or rows k row → k < length rows
    → (IsTrue b ↔ Lessens row i j) → b ≡ true → sum ≡ takes (take k rows) i j → sum + weight row ≤ 200000000000000000
takes_small rows k row i j sum b light few is l h t e =
    let a : takes (take (k + 1) rows) i j ≡ takes (take k rows) i j + cond b (weight row) 0 = takes_more rows k row i j b is l h in
    let c : cond b (weight row) 0 ≡ weight row = ap (λ x. cond x (weight row) 0) t in
    omega (arith, sum_by-take-le (lessened i j) rows (k + 1), takes_le rows i j light few)
