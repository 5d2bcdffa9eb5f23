-- The start of the rounds, and what they make of it.
use Rattle.std.proofs.Common.{◌≡◌, ℕ, ◌*◌, ◌<◌, ◌≤◌, inr, List, length, sym, ◌∙◌, ap, subst, arith}
use Rattle.std.specs.List.{sum_by}
use Rattle.plane.specs.declared.coordinates.Point.{Point}
use Rattle.plane.specs.Accepted.{AreAccepted}
use Rattle.cost_defs.specs.Costs.{Costed}
use Rattle.price_defs.specs.declared.row.Row.{Row}
use Rattle.price_defs.specs.Limits.{AreLight}
use Rattle.price_defs.specs.Loads.{IsValid, lost, value}
use Rattle.price_defs.specs.Tight.{IsTight}
use Rattle.price_defs.specs.Floor.{IsInnerList}
use Rattle.raise_laws.specs.Laws.{IsGood}
use Rattle.search_defs.specs.Priced.{IsPriced, AreRounds, factor, scaled}
use Rattle.search_defs.specs.Words.{round_words}
use Rattle.search_defs.proofs.laws.Scaled.{factor_some, scaled_valid, scaled_tight, priced_good}
use Rattle.dual_prices.specs.Rooms.{AreCheap}
use Rattle.dual_prices.proofs.laws.InPlace.{valid_light}
use Rattle.bound_worker.proofs.Lists.{scaled_lost, scaled_divisor}
use Rattle.bound_worker.proofs.Rounds.{words_some, inner_some}

-- the divisor and the rows with which the rounds begin
pub record IsBegun (q : ℕ) (rows : List Row) (Q : ℕ) (start : List Row) : Type 0 where
  pub divisor : Q ≡ q * factor q rows
  pub rows_are : start ≡ scaled (factor q rows) rows

pub begun_valid : (S : List Point) (D : List Costed) (q : ℕ) (rows : List Row) (Q : ℕ) (start : List Row) → IsBegun q rows Q start → IsValid S D q rows → IsValid S D Q start
begun_valid S D q rows Q start begun valid =
    subst (λ n. IsValid S D n start) (sym begun.divisor)
    (subst (IsValid S D (q * factor q rows)) (sym begun.rows_are) (scaled_valid S D q (factor q rows) rows (factor_some q rows) valid))

pub begun_tight : (S : List Point) (D : List Costed) (q : ℕ) (rows : List Row) (Q : ℕ) (start : List Row) → IsBegun q rows Q start → IsTight S D q rows → IsTight S D Q start
begun_tight S D q rows Q start begun tight =
    subst (λ n. IsTight S D n start) (sym begun.divisor)
    (subst (IsTight S D (q * factor q rows)) (sym begun.rows_are) (scaled_tight S D q (factor q rows) rows tight))

pub begun_lost : (q : ℕ) (rows : List Row) (Q : ℕ) (start : List Row) → IsBegun q rows Q start → sum_by lost start ≡ sum_by lost rows
begun_lost q rows Q start begun = ap (sum_by lost) begun.rows_are ∙ scaled_lost q rows

pub begun_small : (q : ℕ) (rows : List Row) (Q : ℕ) (start : List Row) → IsBegun q rows Q start → q ≤ 1000000 → Q ≤ 1000000
begun_small q rows Q start begun small = omega (arith, begun.divisor, scaled_divisor q rows small)

-- what all rounds make of it
pub record IsRun (S : List Point) (D : List Costed) (inner : List ℕ) (stream seed rounds : ℕ) (q : ℕ) (rows : List Row) (Q : ℕ) (start out : List Row) : Type 0 where
  pub begun : IsBegun q rows Q start
  pub list : IsInnerList S inner
  pub some_rounds : 0 < rounds
  pub some_inner : 0 < length inner
  pub run : AreRounds S D Q inner (round_words stream seed 0 rounds) start out
  pub takers : sum_by lost out ≤ 100000000000

pub run_priced : (S : List Point) (D : List Costed) (inner : List ℕ) (stream seed rounds q : ℕ) (rows : List Row) (Q : ℕ) (start out : List Row) → IsRun S D inner stream seed rounds q rows Q start out
    → IsPriced S D inner (round_words stream seed 0 rounds) q rows Q out
run_priced S D inner stream seed rounds q rows Q start out so = inr (
  words_some stream seed 0 rounds so.some_rounds,
  inner_some inner so.some_inner,
  so.begun.divisor,
  (let rows_are : start ≡ scaled (factor q rows) rows = so.begun.rows_are in subst (λ x. AreRounds S D Q inner (round_words stream seed 0 rounds) x out) rows_are so.run),
)

pub run_good : (S : List Point) (D : List Costed) (inner : List ℕ) (stream seed rounds q : ℕ) (rows : List Row) (Q : ℕ) (start out : List Row) (h : ℕ) → AreAccepted S → IsRun S D inner stream seed rounds q rows Q start out → IsGood S D q rows
    → IsGood S D Q out × (value h q rows ≤ value h Q out)
run_good S D inner stream seed rounds q rows Q start out h ok so good =
    priced_good S D h inner (round_words stream seed 0 rounds) q rows Q out ok.count.0 so.list (run_priced S D inner stream seed rounds q rows Q start out so) good

pub run_light : (S : List Point) (D : List Costed) (inner : List ℕ) (stream seed rounds q : ℕ) (rows : List Row) (Q : ℕ) (start out : List Row) → AreAccepted S → IsRun S D inner stream seed rounds q rows Q start out → IsGood S D q rows
    → q ≤ 1000000 → AreCheap D → AreLight out
run_light S D inner stream seed rounds q rows Q start out ok so good small cheap =
    let g : IsGood S D Q out = (run_good S D inner stream seed rounds q rows Q start out 0 ok so good).0 in
    valid_light S D Q out ok g.valid so.takers (begun_small q rows Q start so.begun small) cheap
