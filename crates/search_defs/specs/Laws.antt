-- The statements of the laws of the price rule.
use Rattle.std.specs.Prelude.{◌≡◌, ℕ, ◌≤◌, List}
use Rattle.plane.specs.declared.coordinates.Point.{Point}
use Rattle.cost_defs.specs.Costs.{Costed}
use Rattle.price_defs.specs.declared.row.Row.{Row}
use Rattle.price_defs.specs.declared.row.Certificate.{Certificate}
use Rattle.price_defs.specs.Loads.{value}
use Rattle.price_defs.specs.Floor.{IsInnerList}
use Rattle.raise_laws.specs.Laws.{IsGood}
use Rattle.search_defs.specs.Priced.{IsPriced}
use Rattle.search_defs.specs.Best.{IsPricedBy}

-- The price rule gives a valid and tight certificate of no smaller value.
abbrev pub PricedIsGood : List Point → Type 0
PricedIsGood S = (D : List Costed) (h : ℕ) (inner : List ℕ) (words : List (ℕ × ℕ)) (q : ℕ) (rows : List Row) (Q : ℕ) (out : List Row)
    → IsInnerList S inner → IsGood S D q rows → IsPriced S D inner words q rows Q out → IsGood S D Q out × (value h q rows ≤ value h Q out)

-- The price rule has one result.
abbrev pub PricedIsOne : List Point → Type 0
PricedIsOne S = (D : List Costed) (start a b : Certificate) (rounds seed stream : ℕ)
    → IsPricedBy S D start rounds seed stream a → IsPricedBy S D start rounds seed stream b → (a.q ≡ b.q) × (a.rows ≡ b.rows)
