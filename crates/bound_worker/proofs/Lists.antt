-- Lists of rows: where the first row Half(p,r) stands, and what Cross and Cap rows take off after each step.
use Rattle.std.proofs.Common.{◌≡◌, ℕ, ◌+◌, ◌*◌, ◌≤◌, ◌⊎◌, inl, inr, List, [], ◌∷◌, ◌++◌, length, take, drop, Bool, true, false, cond, Some, None, sym, ◌∙◌, ap, refl, subst, arith}
use Rattle.std.specs.Prelude.{not, ◌||◌, ◌&&◌, nat_lt, nat_le}
use Rattle.std.specs.List.{list_any, sum_by, AllZip}
use Rattle.std.proofs.lemmas.Bool.{true≢false, leb-true, and_parts, not-true}
use Rattle.std.proofs.lemmas.List.{get_or_default}
use Rattle.std.proofs.lemmas.List.Sums.{sum_by-cons, sum_by-append}
use Rattle.std.proofs.lemmas.List.Folds.{list_any_at}
use Rattle.plane.specs.declared.coordinates.Point.{Point}
use Rattle.cost_defs.specs.Costs.{Costed}
use Rattle.price_defs.specs.declared.row.Row.{Row}
use Rattle.price_defs.specs.declared.row.Row.TheVariants.{Half, Three, Cross, Cap}
use Rattle.price_defs.specs.declared.row.TheConstants.{MOST_ROWS}
use Rattle.price_defs.specs.Rows.{row_at, is_at, weight}
use Rattle.price_defs.specs.Loads.{lost, value}
use Rattle.price_defs.specs.Raising.{reweigh, IsRaisedRow}
use Rattle.raise_laws.specs.Laws.{Grows}
use Rattle.raise_laws.proofs.laws.Raises.{raised_grows, grown_lost}
use Rattle.search_defs.specs.Priced.{is_half, is_taker, lowered, opened, IsLifted, IsTrial, taken_of, factor, scaled}
use Rattle.dual_prices.specs.Raised.{IsRaisedAt}
use Rattle.dual_prices.proofs.laws.InPlace.{split, replaced}
use Rattle.bound_worker.specs.Places.{IsPlace}

-- the row at the first place is raised
pub lifted_at : (S : List Point) (D : List Costed) (q p r k : ℕ) (rows new : List Row) → IsPlace p r rows (Some k) → IsRaisedAt S D q rows k new → IsLifted S D q p r rows new
lifted_at S D q p r k rows new place at =
    let s : (drop k rows ≡ at.row ∷ drop (k + 1) rows) × (take k rows ++ at.row ∷ drop (k + 1) rows ≡ rows) = split rows k at.row at.is at.within in
    let here : row_at rows k ≡ at.row = sym (at.is ∙ get_or_default rows k at.row (Three 0 0) at.within) in
    inr (
      take k rows,
      drop (k + 1) rows,
      at.row,
      at.after,
      sym s.1,
      place.2,
      subst (λ x. is_half p r x ≡ true) here place.1,
      at.raised,
      at.changed ∙ replaced rows k at.after at.within,
    )

pub lifted_none : (S : List Point) (D : List Costed) (q p r : ℕ) (rows : List Row) → IsPlace p r rows None → IsLifted S D q p r rows rows
lifted_none S D q p r rows place = inl (place, refl)

-- whether Half(p,r) is there
pub place_some : (p r k : ℕ) (rows : List Row) → IsPlace p r rows (Some k) → list_any (is_half p r) rows ≡ true
place_some p r k rows place = list_any_at (is_half p r) rows k (Three 0 0) place.0 place.1

-- what is taken off stays
low_lost : (p : ℕ) (row : Row) → lost (cond (is_at p row) (reweigh row 0) row) ≡ lost row
low_lost p (Half u q w) = elim (is_at p (Half u q w)) as (λ t. lost (cond t (Half u q 0) (Half u q w)) ≡ 0) [ true ↦ refl | false ↦ refl ]
low_lost p (Three u w) = elim (is_at p (Three u w)) as (λ t. lost (cond t (Three u 0) (Three u w)) ≡ 0) [ true ↦ refl | false ↦ refl ]
low_lost p (Cross e f w) = refl
low_lost p (Cap e w) = refl

pub lowered_lost : (p : ℕ) (rows : List Row) → sum_by lost (lowered p rows) ≡ sum_by lost rows
lowered_lost p [] = refl
lowered_lost p (row ∷ rows) =
    omega (arith, sum_by-cons lost (cond (is_at p row) (reweigh row 0) row) (lowered p rows), sum_by-cons lost row rows, low_lost p row, lowered_lost p rows)

pub opened_lost : (p r : ℕ) (rows : List Row) → sum_by lost (opened p r rows) ≡ sum_by lost rows
opened_lost p r rows =
    elim (list_any (is_half p r) rows || not (nat_lt (length rows) MOST_ROWS)) as (λ t. sum_by lost (cond t rows (rows ++ Half p r 0 ∷ [])) ≡ sum_by lost rows) [
      | true ↦ refl
      | false ↦ omega (arith, sum_by-append lost rows (Half p r 0 ∷ []), sum_by-cons lost (Half p r 0) [])
    ]

raised_row_lost : (S : List Point) (D : List Costed) (q : ℕ) (rows : List Row) (old new : Row) → IsRaisedRow S D q rows old new → lost new ≡ lost old
raised_row_lost S D q rows (Half p r w) new h = ap lost h.2
raised_row_lost S D q rows (Three p w) new h = ap lost h.2
raised_row_lost S D q rows (Cross e f w) new h = ap lost h
raised_row_lost S D q rows (Cap e w) new h = ap lost h

pub lifted_lost : (S : List Point) (D : List Costed) (q p r : ℕ) (rows out : List Row) → IsLifted S D q p r rows out → sum_by lost out ≡ sum_by lost rows
lifted_lost S D q p r rows out (inl h) = ap (sum_by lost) h.1
lifted_lost S D q p r rows out (inr (before, after, old, new, is, none, it, raised, so)) =
    omega (
      arith,
      ap (sum_by lost) is,
      ap (sum_by lost) so,
      sum_by-append lost before (old ∷ after),
      sum_by-append lost before (new ∷ after),
      sum_by-cons lost old after,
      sum_by-cons lost new after,
      raised_row_lost S D q rows old new raised,
    )

pub trial_lost : (S : List Point) (D : List Costed) (q p r : ℕ) (rows out : List Row) → IsTrial S D q p r rows out → sum_by lost out ≡ sum_by lost rows
trial_lost S D q p r rows out (mid, lifted, raised) =
    grown_lost mid out (raised_grows S D q mid out raised) ∙ lifted_lost S D q p r (opened p r (lowered p rows)) mid lifted ∙ opened_lost p r (lowered p rows) ∙ lowered_lost p rows

pub taken_lost : (q n : ℕ) (rows trial : List Row) → sum_by lost rows ≡ n → sum_by lost trial ≡ n → sum_by lost (taken_of q rows trial) ≡ n
taken_lost q n rows trial a b = elim (nat_le (value 0 q rows) (value 0 q trial)) as (λ t. sum_by lost (cond t trial rows) ≡ n) [ true ↦ b | false ↦ a ]

-- what is taken off when all is multiplied
no_taker : (rows : List Row) → list_any is_taker rows ≡ false → sum_by lost rows ≡ 0
no_taker [] h = refl
no_taker (Half p q w ∷ rows) h = omega (arith, sum_by-cons lost (Half p q w) rows, no_taker rows h)
no_taker (Three p w ∷ rows) h = omega (arith, sum_by-cons lost (Three p w) rows, no_taker rows h)
no_taker (Cross e f w ∷ rows) h = absurd (true≢false h)
no_taker (Cap e w ∷ rows) h = absurd (true≢false h)

up_lost : (f : ℕ) (row : Row) → lost (reweigh row (weight row * f)) ≡ lost row * f
up_lost f (Half p q w) = omega arith
up_lost f (Three p w) = omega arith
up_lost f (Cross e g w) = refl
up_lost f (Cap e w) = refl

scaled_sum : (f : ℕ) (rows : List Row) → sum_by lost (scaled f rows) ≡ sum_by lost rows * f
scaled_sum f [] = omega arith
scaled_sum f (row ∷ rows) =
    omega (arith, sum_by-cons lost (reweigh row (weight row * f)) (scaled f rows), ap (λ n. n * f) (sum_by-cons lost row rows), up_lost f row, scaled_sum f rows)

factor_cases : (q : ℕ) (rows : List Row) → ((factor q rows ≡ 60) × (q ≤ 10000) × (list_any is_taker rows ≡ false)) ⊎ (factor q rows ≡ 1)
factor_cases q rows =
    elim (nat_le q 10000 && not (list_any is_taker rows)) as (λ t. (nat_le q 10000 && not (list_any is_taker rows)) ≡ t → ((let n : ℕ = cond t 60 1 in n ≡ 60) × (q ≤ 10000) × (list_any is_taker rows ≡ false)) ⊎ (let n : ℕ = cond t 60 1 in n ≡ 1)) [
      | true ↦ λ e. inl (refl, leb-true q 10000 (and_parts (nat_le q 10000) (not (list_any is_taker rows)) e).0, not-true (list_any is_taker rows) (and_parts (nat_le q 10000) (not (list_any is_taker rows)) e).1)
      | false ↦ λ e. inr refl
    ] refl

pub scaled_lost : (q : ℕ) (rows : List Row) → sum_by lost (scaled (factor q rows) rows) ≡ sum_by lost rows
scaled_lost q rows = elim (factor_cases q rows) [
  | inl h ↦ omega (arith, scaled_sum (factor q rows) rows, ap (λ n. n * factor q rows) (no_taker rows h.2), no_taker rows h.2)
  | inr e ↦ omega (arith, scaled_sum (factor q rows) rows, ap (λ n. sum_by lost rows * n) e)
]

pub scaled_divisor : (q : ℕ) (rows : List Row) → q ≤ 1000000 → q * factor q rows ≤ 1000000
scaled_divisor q rows small = elim (factor_cases q rows) [
  | inl h ↦ omega (arith, ap (λ n. q * n) h.0, h.1)
  | inr e ↦ omega (arith, ap (λ n. q * n) e)
]
