-- Limits of weights, and rows that need no raising.
use Rattle.std.proofs.Common.{◌≡◌, ℕ, ◌+◌, ◌*◌, ◌≤◌, List, get_or, true, false, cond, ap, arith}
use Rattle.std.specs.Prelude.{pos, ◌≤ℤ◌}
use Rattle.std.specs.List.{Contains, sum_by}
use Rattle.std.proofs.lemmas.Int.{ints}
use Rattle.std.proofs.lemmas.List.Sums.{sum_by-le-sum_by, get_or-le-sum_by}
use Rattle.std.proofs.lemmas.List.Elements.{All-contains}
use Rattle.plane.specs.declared.coordinates.Point.{Point}
use Rattle.plane.specs.Accepted.{AreAccepted}
use Rattle.price_defs.specs.declared.row.Row.{Row}
use Rattle.price_defs.specs.declared.row.Row.TheVariants.{Half, Three, Cross, Cap}
use Rattle.cost_defs.specs.Costs.{Costed, cost}
use Rattle.price_defs.specs.Rows.{IsRight, weight, lessens}
use Rattle.price_defs.specs.Loads.{given, lessened, gives, takes, load, IsValid, lost}
use Rattle.price_defs.specs.Tight.{IsAtPoint, IsFull}
use Rattle.price_defs.specs.Raising.{IsRoom}
use Rattle.price_defs.specs.Laws.{CountsSome}
use Rattle.price_defs.proofs.laws.Tests.{counts_decides}
use Rattle.price_defs.proofs.laws.Counted.{row_free}
use Rattle.price_defs.proofs.laws.Counting.{counts_some}

pub lessened_lost : (i j : ℕ) (row : Row) → lessened i j row ≤ lost row
unfolding lessens
lessened_lost i j (Half p q w) = omega arith
lessened_lost i j (Three p w) = omega arith
lessened_lost i j (Cross e f w) = elim (lessens (Cross e f w) i j) as (λ t. cond t w 0 ≤ w) [ true ↦ omega arith | false ↦ omega arith ]
lessened_lost i j (Cap e w) = elim (lessens (Cap e w) i j) as (λ t. cond t w 0 ≤ w) [ true ↦ omega arith | false ↦ omega arith ]

-- a weight of a valid certificate is at most what some pair may have and what the Cross and Cap rows take off
pub record IsWithin (S : List Point) (D : List Costed) (q : ℕ) (rows : List Row) (row : Row) : Type 0 where
  pub i : ℕ
  pub j : ℕ
  pub bound : weight row ≤ q * cost D i j + sum_by lost rows

pub weight_within : (S : List Point) (D : List Costed) (q : ℕ) (rows : List Row) (row : Row) → AreAccepted S → IsValid S D q rows → Contains rows row → IsAtPoint row → IsWithin S D q rows row
weight_within S D q rows row ok valid c at_point =
    let right : IsRight S row = All-contains (IsRight S) rows row valid.right c in
    let s : CountsSome S row = counts_some S row ok right at_point in
    let l : load S rows s.i s.j ≤ℤ pos (q * cost D s.i s.j) = valid.loads s.i s.j s.ordered s.within s.clear (λ b. row_free S row s.i s.j right b s.ordered s.within s.counted) in
    let g : given S s.i s.j row ≡ weight row = ap (λ t. cond t (weight row) 0) ((counts_decides S row s.i s.j).1 s.counted) in
    let e : given S s.i s.j (get_or rows c.0 row) ≡ given S s.i s.j row = ap (given S s.i s.j) c.2 in
    let m : given S s.i s.j (get_or rows c.0 row) ≤ gives S rows s.i s.j = get_or-le-sum_by (given S s.i s.j) rows c.0 row c.1 in
    let t : takes rows s.i s.j ≤ sum_by lost rows = sum_by-le-sum_by (lessened s.i s.j) lost rows (lessened_lost s.i s.j) in
    record { i = s.i; j = s.j; bound = omega (arith, ints, e, g) }

-- A row that counts a full pair is raised by nothing.
pub full_has_no_room : (S : List Point) (D : List Costed) (q : ℕ) (rows : List Row) (row : Row) → IsValid S D q rows → IsRight S row → IsFull S D q rows row → IsRoom S D q rows row 0
full_has_no_room S D q rows row valid right full = record {
  i = full.i;
  j = full.j;
  ordered = full.ordered;
  within = full.within;
  clear = full.clear;
  counted = full.counted;
  is = omega (arith, ints, full.full);
  least = λ k l o n c h. (let v : load S rows k l ≤ℤ pos (q * cost D k l) = valid.loads k l o n c (λ b. row_free S row k l right b o n h) in omega (arith, ints));
}
