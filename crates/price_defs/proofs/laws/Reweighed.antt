-- A row with another weight: right as before, and it counts and lessens the same pairs.
use Rattle.std.proofs.Common.{◌≡◌, ℕ, List, refl}
use Rattle.plane.specs.declared.coordinates.Point.{Point}
use Rattle.price_defs.specs.declared.row.Row.{Row}
use Rattle.price_defs.specs.declared.row.Row.TheVariants.{Half, Three, Cross, Cap}
use Rattle.price_defs.specs.Rows.{IsRight, weight, counts, lessens}
use Rattle.price_defs.specs.Raising.{reweigh}

pub counts_reweigh : (S : List Point) (row : Row) (v i j : ℕ) → counts S (reweigh row v) i j ≡ counts S row i j
unfolding counts
counts_reweigh S (Half p q w) v i j = refl
counts_reweigh S (Three p w) v i j = refl
counts_reweigh S (Cross e f w) v i j = refl
counts_reweigh S (Cap e w) v i j = refl

pub lessens_reweigh : (row : Row) (v i j : ℕ) → lessens (reweigh row v) i j ≡ lessens row i j
unfolding lessens
lessens_reweigh (Half p q w) v i j = refl
lessens_reweigh (Three p w) v i j = refl
lessens_reweigh (Cross e f w) v i j = refl
lessens_reweigh (Cap e w) v i j = refl

pub weight_reweigh : (row : Row) (v : ℕ) → weight (reweigh row v) ≡ v
weight_reweigh (Half p q w) v = refl
weight_reweigh (Three p w) v = refl
weight_reweigh (Cross e f w) v = refl
weight_reweigh (Cap e w) v = refl

pub right_reweigh : (S : List Point) (row : Row) (v : ℕ) → IsRight S row → IsRight S (reweigh row v)
right_reweigh S (Half p q w) v h = h
right_reweigh S (Three p w) v h = h
right_reweigh S (Cross e f w) v h = h
right_reweigh S (Cap e w) v h = h
