-- Sums over the rows at a point, along their links; and loads by points.
use Rattle.std.proofs.Common.{◌≡◌, ◌≢◌, ℕ, ◌+◌, ◌*◌, ◌<◌, ◌≤◌, List, [], ◌∷◌, length, get_or, take, Option, Some, None, Bool, true, false, cond, sym, ◌∙◌, ap, ap₂, subst, refl, arith}
use Rattle.std.specs.Prelude.{nat_eq, ◌&&◌, ◌||◌}
use Rattle.std.specs.List.{sum_by}
use Rattle.std.proofs.lemmas.Bool.{eqb-true, false≢true}
use Rattle.std.proofs.lemmas.Bool.Decides.{Decides-eqb}
use Rattle.std.proofs.lemmas.List.{length-take, get_or-take, take-take, get_or_default}
use Rattle.std.proofs.lemmas.List.Sums.{sum_by-cons, sum_by_more, sum_by-le, sum_by-le-sum_by}
use Rattle.std.proofs.Math.Seq.{take-length}
use Rattle.plane.specs.declared.coordinates.Point.{Point}
use Rattle.point_rows.proofs.Taking.{sum-flat_between}
use Rattle.price_defs.specs.declared.row.Row.{Row}
use Rattle.price_defs.specs.declared.row.Row.TheVariants.{Half, Three, Cross, Cap}
use Rattle.price_defs.specs.Rows.{is_at, counts, in_need, weight}
use Rattle.price_defs.specs.Limits.{AreLight}
use Rattle.price_defs.specs.Loads.{given, gives}
use Rattle.price_defs.specs.Rows.{row_at}
use Rattle.point_rows.specs.Placed.{IsLastAt, given_at, gives_at, end_of}

-- rows of which none is at p give nothing at p
none_given : (S : List Point) (rows : List Row) (p r m n : ℕ) → m ≤ n → n ≤ length rows → ((k : ℕ) → m ≤ k → k < n → is_at p (row_at rows k) ≡ false)
    → sum_by (given_at S p r) (take n rows) ≡ sum_by (given_at S p r) (take m rows)
none_given S rows p r m n le len never = sum-flat_between (given_at S p r) rows (Three 0 0) m n le len (λ k a b. ap (λ t. cond t (given S p r (row_at rows k)) 0) (never k a b))

-- the rows up to the last one at p have all that is given there
pub up_to_last : (S : List Point) (rows : List Row) (p r n : ℕ) (o : Option ℕ) → n ≤ length rows → IsLastAt (take n rows) p o
    → sum_by (given_at S p r) (take n rows) ≡ sum_by (given_at S p r) (take (end_of o) rows)
up_to_last S rows p r n None len last = none_given S rows p r 0 n (omega arith) len (λ k a b. (
    let l : k < length (take n rows) = omega (arith, length-take n rows) in sym (ap (is_at p) (get_or-take n rows k (Three 0 0) b)) ∙ last k l))
up_to_last S rows p r n (Some k) len (kl, holds, after) = none_given S rows p r (k + 1) n (omega (arith, length-take n rows)) len (λ j a b. (
    let l : j < length (take n rows) = omega (arith, length-take n rows) in sym (ap (is_at p) (get_or-take n rows j (Three 0 0) b)) ∙ after j (omega arith) l))

-- a step of the walk: the row at k and what was before it
pub walk_step : (S : List Point) (rows : List Row) (p r k : ℕ) → k < length rows → is_at p (row_at rows k) ≡ true
    → sum_by (given_at S p r) (take (k + 1) rows) ≡ sum_by (given_at S p r) (take k rows) + given S p r (row_at rows k)
walk_step S rows p r k l holds =
    sum_by_more (given_at S p r) rows k (Three 0 0) l ∙ ap (λ n. sum_by (given_at S p r) (take k rows) + n) (ap (λ t. cond t (given S p r (row_at rows k)) 0) holds)

-- the row that was read is the row at the position
pub row_read : (rows : List Row) (k : ℕ) (row : Row) → k < length rows → row ≡ get_or rows k row → row ≡ row_at rows k
row_read rows k row l is = is ∙ get_or_default rows k row (Three 0 0) l

-- what the walk along the links keeps
abbrev pub IsWalking : List Point → List Row → (p r : ℕ) → Option ℕ → ℕ → Type 0
IsWalking S rows p r next sum =
    (end_of next ≤ length rows) × IsLastAt (take (end_of next) rows) p next
    × (sum + sum_by (given_at S p r) (take (end_of next) rows) ≡ sum_by (given_at S p r) rows)

last_short : (rows : List Row) (p : ℕ) (o : Option ℕ) → IsLastAt rows p o → end_of o ≤ length rows
last_short rows p None h = omega arith
last_short rows p (Some k) h = (let l : k < length rows = h.0 in omega arith)

last_cut : (rows : List Row) (p : ℕ) (o : Option ℕ) → IsLastAt rows p o → IsLastAt (take (end_of o) rows) p o
last_cut rows p None h = λ k l. absurd (omega (arith, length-take 0 rows))
last_cut rows p (Some k) (l, here, after) = (
  omega (arith, length-take (k + 1) rows),
  ap (is_at p) (get_or-take (k + 1) rows k (Three 0 0) (omega arith)) ∙ here,
  λ j kj jl. absurd (omega (arith, length-take (k + 1) rows)),
)

pub walk_begins : (S : List Point) (rows : List Row) (p r : ℕ) (o : Option ℕ) → IsLastAt rows p o → IsWalking S rows p r o 0
walk_begins S rows p r o last = (
  last_short rows p o last,
  last_cut rows p o last,
  (let whole : take (length rows) rows ≡ rows = take-length rows in
      let e : sum_by (given_at S p r) (take (length rows) rows) ≡ sum_by (given_at S p r) (take (end_of o) rows) = up_to_last S rows p r (length rows) o (omega arith) (subst (λ (x : List Row). IsLastAt x p o) (sym whole) last) in
      omega (arith, e, ap (sum_by (given_at S p r)) whole)),
)

last_at_row : (S : List Point) (rows : List Row) (p r k sum : ℕ) → IsWalking S rows p r (Some k) sum → is_at p (row_at rows k) ≡ true
last_at_row S rows p r k sum w = sym (ap (is_at p) (get_or-take (k + 1) rows k (Three 0 0) (omega arith))) ∙ w.1.1

last_of_take : (rows : List Row) (p k : ℕ) (o : Option ℕ) → k < length rows → IsLastAt (take k rows) p o → (end_of o ≤ k) × IsLastAt (take (end_of o) rows) p o
last_of_take rows p k o l last =
    let s : end_of o ≤ length (take k rows) = last_short (take k rows) p o last in
    let le : end_of o ≤ k = omega (arith, length-take k rows) in
    (le, subst (λ (x : List Row). IsLastAt x p o) (take-take (end_of o) k rows le) (last_cut (take k rows) p o last))

pub walk_goes_on : (S : List Point) (rows : List Row) (p r k sum g : ℕ) (o : Option ℕ) → IsWalking S rows p r (Some k) sum → g ≡ given S p r (row_at rows k) → IsLastAt (take k rows) p o
    → IsWalking S rows p r o (sum + g)
walk_goes_on S rows p r k sum g o w is last =
    let l : k < length rows = (let e : k + 1 ≤ length rows = w.0 in omega arith) in
    let c : (end_of o ≤ k) × IsLastAt (take (end_of o) rows) p o = last_of_take rows p k o l last in
    let up : sum_by (given_at S p r) (take k rows) ≡ sum_by (given_at S p r) (take (end_of o) rows) = up_to_last S rows p r k o (omega arith) last in
    (omega (arith, c.0), c.1, omega (arith, w.2, walk_step S rows p r k l (last_at_row S rows p r k sum w), up, is))

pub walk_shrinks : (rows : List Row) (p k : ℕ) (o : Option ℕ) → k < length rows → IsLastAt (take k rows) p o → end_of o < end_of (Some k)
walk_shrinks rows p k o l last = omega (arith, (last_of_take rows p k o l last).0)

pub walk_at : (S : List Point) (rows : List Row) (p r k sum : ℕ) → IsWalking S rows p r (Some k) sum → (k < length rows) × (is_at p (row_at rows k) ≡ true)
walk_at S rows p r k sum w = (let e : k + 1 ≤ length rows = w.0 in omega arith, last_at_row S rows p r k sum w)

given_light : (b c : Bool) (w : ℕ) → cond b (cond c w 0) 0 ≤ w
given_light true true w = omega arith
given_light true false w = omega arith
given_light false c w = omega arith

pub at_small : (S : List Point) (rows : List Row) (p r : ℕ) → length rows ≤ 200000 → AreLight rows → sum_by (given_at S p r) rows ≤ 200000000000000000
at_small S rows p r few light =
    let a : sum_by (given_at S p r) rows ≤ sum_by weight rows = sum_by-le-sum_by (given_at S p r) weight rows (λ row. given_light (is_at p row) (counts S row p r) (weight row)) in
    let b : sum_by weight rows ≤ length rows * 1000000000000 = sum_by-le weight 1000000000000 rows light in
    omega arith

pub walk_small : (S : List Point) (rows : List Row) (p r k sum g : ℕ) → length rows ≤ 200000 → AreLight rows → IsWalking S rows p r (Some k) sum → g ≡ given S p r (row_at rows k) → sum + g ≤ 200000000000000000
walk_small S rows p r k sum g few light w is =
    let l : k < length rows = (walk_at S rows p r k sum w).0 in
    omega (arith, w.2, walk_step S rows p r k l (last_at_row S rows p r k sum w), is, at_small S rows p r few light)

pub walk_ends : (S : List Point) (rows : List Row) (p r sum : ℕ) → IsWalking S rows p r None sum → sum ≡ sum_by (given_at S p r) rows
walk_ends S rows p r sum w = omega (arith, w.2)
