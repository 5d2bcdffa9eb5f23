-- Rows with a Cross or Cap row more.
use Rattle.std.proofs.Common.{◌+◌, ◌≤◌, inl, inr, List, [], ◌∷◌, ◌++◌, arith}
use Rattle.std.specs.List.{sum_by}
use Rattle.std.proofs.lemmas.List.Sums.{sum_by_push}
use Rattle.std.proofs.lemmas.List.Elements.{Contains-append_left}
use Rattle.plane.specs.declared.coordinates.Point.{Point}
use Rattle.price_defs.specs.declared.row.Row.{Row}
use Rattle.price_defs.specs.declared.row.Row.TheVariants.{Half, Three, Cross, Cap}
use Rattle.price_defs.specs.Rows.{weight}
use Rattle.price_defs.specs.Loads.{lost}
use Rattle.price_defs.specs.Tight.{AreCovered}

pub covered_push : (S : List Point) (rows : List Row) (row : Row) → AreCovered S rows → AreCovered S (rows ++ row ∷ [])
covered_push S rows row covered p pn inner = elim (covered p pn inner) [
  | inl h ↦ inl (h.0, Contains-append_left rows (row ∷ []) _ h.1)
  | inr h ↦ inr (h.0, h.1, h.2, h.3, Contains-append_left rows (row ∷ []) _ h.4, Contains-append_left rows (row ∷ []) _ h.5, h.6)
]

lost_light : (row : Row) → lost row ≤ weight row
lost_light (Half p q w) = omega arith
lost_light (Three p w) = omega arith
lost_light (Cross e f w) = omega arith
lost_light (Cap e w) = omega arith

pub lost_push : (rows : List Row) (row : Row) → weight row ≤ 9 → sum_by lost (rows ++ row ∷ []) ≤ sum_by lost rows + 9
lost_push rows row h = omega (arith, sum_by_push lost rows row, lost_light row)
