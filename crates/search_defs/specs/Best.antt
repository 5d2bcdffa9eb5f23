-- What the bound workers find, and the best of it. (This project's own.)
use Rattle.std.specs.Prelude.{◌≡◌, ℕ, ◌+◌, ◌<◌, ◌≤◌, List, length, slice_index_or}
use Rattle.std.specs.List.{IsFirstMaxByKey}
use Rattle.plane.specs.declared.coordinates.Point.{Point}
use Rattle.cost_defs.specs.Costs.{Costed}
use Rattle.price_defs.specs.declared.row.Certificate.{Certificate}
use Rattle.price_defs.specs.Loads.{value}
use Rattle.price_defs.specs.Floor.{IsInnerList}
use Rattle.price_defs.specs.Raising.{IsRaisedFloor}
use Rattle.search_defs.specs.Priced.{IsPriced}
use Rattle.search_defs.specs.Words.{round_words}

-- what the rule makes of a certificate in so many rounds, with the words of a seed and a stream
abbrev pub IsPricedBy : List Point → List Costed → (start : Certificate) → (rounds seed stream : ℕ) → (out : Certificate) → Type 0
IsPricedBy S D start rounds seed stream out =
    (inner : List ℕ) × IsInnerList S inner × IsPriced S D inner (round_words stream seed 0 rounds) start.q start.rows out.q out.rows

-- the candidates: the raised floor certificate, then what each of so many bound workers finds from it, with the streams
-- from 101 on
pub record AreCandidates (S : List Point) (D : List Costed) (workers rounds seed : ℕ) (found : List Certificate) : Type 0 where
  pub raised : Certificate
  pub floor : IsRaisedFloor S D raised.q raised.rows
  pub count : length found ≡ workers + 1
  pub first : slice_index_or found 0 raised ≡ raised
  pub others : (b : ℕ) → 0 < b → b ≤ workers → IsPricedBy S D raised rounds seed (100 + b) (slice_index_or found b raised)

-- the best: of the greatest value, and the first of these
abbrev pub IsBest : List Point → List Costed → (workers rounds seed : ℕ) → Certificate → Type 0
IsBest S D workers rounds seed best =
    (found : List Certificate) × (k : ℕ) × AreCandidates S D workers rounds seed found
    × IsFirstMaxByKey (λ c. value 0 c.q c.rows) found (workers + 1) k × (slice_index_or found k best ≡ best)
