-- The sums under a value are small.
use Rattle.std.proofs.Common.{◌≡◌, ℕ, ◌+◌, ◌*◌, ◌<◌, ◌≤◌, List, length, get_or, take, ap, arith}
use Rattle.std.specs.List.{sum_by}
use Rattle.std.specs.Int.{div_ceil}
use Rattle.std.proofs.Math.Nat.{mul-le-mul_left, mul_comm}
use Rattle.std.proofs.lemmas.List.Sums.{sum_by_more_le, sum_by-le, sum_by-le-sum_by}
use Rattle.std.proofs.lemmas.List.Elements.{All-weaker}
use Rattle.price_defs.specs.declared.row.Row.{Row}
use Rattle.price_defs.specs.declared.row.Row.TheVariants.{Half, Three, Cross, Cap}
use Rattle.plane.specs.declared.coordinates.Point.{Point}
use Rattle.price_defs.specs.Rows.{counts, lessens, weight}
use Rattle.price_defs.specs.Loads.{given, lessened, gives, takes, added, lost}
use Rattle.price_defs.proofs.laws.Duality.{ceil-le}
use Rattle.price_defs.specs.Limits.{AreLight}
use Rattle.number_laws.proofs.ListSums.{cond_le}

added_light : (row : Row) → weight row ≤ 1000000000000 → added row ≤ 3000000000000
added_light (Half p q w) h = omega arith
added_light (Three p w) h = omega arith
added_light (Cross e f w) h = omega arith
added_light (Cap e w) h = omega arith

lost_light : (row : Row) → weight row ≤ 1000000000000 → lost row ≤ 3000000000000
lost_light (Half p q w) h = omega arith
lost_light (Three p w) h = omega arith
lost_light (Cross e f w) h = omega arith
lost_light (Cap e w) h = omega arith

pub sum_small : (f : Row → ℕ) → ((row : Row) → weight row ≤ 1000000000000 → f row ≤ 3000000000000) → (rows : List Row) → AreLight rows → length rows ≤ 200000 → sum_by f rows ≤ 600000000000000000
sum_small f h rows light few =
    let a : sum_by f rows ≤ length rows * 3000000000000 = sum_by-le f 3000000000000 rows (All-weaker (λ row. weight row ≤ 1000000000000) (λ row. f row ≤ 3000000000000) h rows light) in
    omega arith

more_small : (f : Row → ℕ) → ((row : Row) → weight row ≤ 1000000000000 → f row ≤ 3000000000000) → (rows : List Row) (k : ℕ) (row : Row) (sum : ℕ) → AreLight rows → length rows ≤ 200000
    → k < length rows → row ≡ get_or rows k row → sum ≡ sum_by f (take k rows) → sum + f row ≤ 600000000000000000
more_small f h rows k row sum light few l is e = omega (arith, sum_by_more_le f rows k row l, sum_small f h rows light few, ap f is, e)

pub added_small : (rows : List Row) (k : ℕ) (row : Row) (sum : ℕ) → AreLight rows → length rows ≤ 200000 → k < length rows → row ≡ get_or rows k row → sum ≡ sum_by added (take k rows) → sum + added row ≤ 600000000000000000
added_small = more_small added added_light

pub lost_small : (rows : List Row) (k : ℕ) (row : Row) (sum : ℕ) → AreLight rows → length rows ≤ 200000 → k < length rows → row ≡ get_or rows k row → sum ≡ sum_by lost (take k rows) → sum + lost row ≤ 600000000000000000
lost_small = more_small lost lost_light

pub added_total : (rows : List Row) → AreLight rows → length rows ≤ 200000 → sum_by added rows ≤ 600000000000000000
added_total = sum_small added added_light

pub ceil_small : (x q : ℕ) → 0 < q → div_ceil x q ≤ x
ceil_small x q h = ceil-le x q x h (let k : x * 1 ≤ x * q = mul-le-mul_left x h in omega (arith, mul_comm x q))

-- no load is too great
pub gives_le : (S : List Point) (rows : List Row) (i j : ℕ) → AreLight rows → length rows ≤ 200000 → gives S rows i j ≤ 200000000000000000
gives_le S rows i j light few =
    let a : gives S rows i j ≤ sum_by weight rows = sum_by-le-sum_by (given S i j) weight rows (λ row. cond_le (counts S row i j) (weight row)) in
    let b : sum_by weight rows ≤ length rows * 1000000000000 = sum_by-le weight 1000000000000 rows light in
    omega arith

pub takes_le : (rows : List Row) (i j : ℕ) → AreLight rows → length rows ≤ 200000 → takes rows i j ≤ 200000000000000000
takes_le rows i j light few =
    let a : takes rows i j ≤ sum_by weight rows = sum_by-le-sum_by (lessened i j) weight rows (λ row. cond_le (lessens row i j) (weight row)) in
    let b : sum_by weight rows ≤ length rows * 1000000000000 = sum_by-le weight 1000000000000 rows light in
    omega arith
