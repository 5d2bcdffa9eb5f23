-- The definitions on worked examples.
use Rattle.std.proofs.Common.{◌≡◌, ℕ, pos, List, [], ◌∷◌, refl}
use Rattle.plane.specs.declared.coordinates.Point.{Point}
use Rattle.plane.specs.declared.segment.Pair.{Pair}
use Rattle.plane.specs.Geometry.{area, scalar}
use Rattle.price_defs.specs.declared.row.Row.{Row}
use Rattle.price_defs.specs.declared.row.Row.TheVariants.{Half, Three, Cap}
use Rattle.cost_defs.specs.Costs.{cost}
use Rattle.price_defs.specs.Rows.{is_between, in_need, counts, lessens}
use Rattle.price_defs.specs.Loads.{load, value}
use Rattle.std.proofs.Common.{lit<}

abbrev at : (x y : ℕ) → Point
at x y = record { x = pos x; y = pos y }

abbrev square : List Point
square = at 0 0 ∷ at 0 4 ∷ at 4 0 ∷ at 4 4 ∷ at 2 2 ∷ []

abbrev triangle : List Point
triangle = at 0 0 ∷ at 6 0 ∷ at 0 6 ∷ at 2 1 ∷ []

abbrev e04 : Pair
e04 = record { lo = 0; hi = 4; ordered = lit< tt }

abbrev e14 : Pair
e14 = record { lo = 1; hi = 4; ordered = lit< tt }

-- the two floor certificates and the two raised ones
abbrev low : List Row
low = Half 4 0 1 ∷ Half 4 3 1 ∷ []

abbrev high : List Row
high = Half 4 0 2 ∷ Half 4 3 2 ∷ []

value_low : value 4 2 low ≡ 5
value_low = refl

value_high : value 4 2 high ≡ 6
value_high = refl

value_three : (value 3 2 (Three 3 1 ∷ []) ≡ 5) × (value 3 2 (Three 3 2 ∷ []) ≡ 6)
value_three = (refl, refl)

-- kept loads
load04 : load square low 0 4 ≡ pos 1
unfolding area scalar is_between in_need counts lessens
load04 = refl

load24 : load square low 2 4 ≡ pos 1
unfolding area scalar is_between in_need counts lessens
load24 = refl

load01 : load square low 0 1 ≡ pos 0
unfolding area scalar is_between in_need counts lessens
load01 = refl

raised24 : (load square (Half 4 0 2 ∷ Half 4 3 1 ∷ []) 2 4 ≡ pos 2) × (load square (Half 4 0 2 ∷ Half 4 3 1 ∷ []) 3 4 ≡ pos 2) × (load square (Half 4 0 2 ∷ Half 4 3 1 ∷ []) 0 4 ≡ pos 1)
unfolding area scalar is_between in_need counts lessens
raised24 = (refl, refl, refl)

lowered24 : load square (Half 4 0 0 ∷ Half 4 3 1 ∷ []) 2 4 ≡ pos 0
unfolding area scalar is_between in_need counts lessens
lowered24 = refl

capped04 : load square (Half 4 0 0 ∷ Half 4 3 1 ∷ Cap e04 1 ∷ []) 0 4 ≡ pos 0
unfolding area scalar is_between in_need counts lessens
capped04 = refl

-- the overload: 2-4 has 3
over24 : load square (Half 4 0 3 ∷ Half 4 3 2 ∷ []) 2 4 ≡ pos 3
unfolding area scalar is_between in_need counts lessens
over24 = refl

-- costs
cost41 : (cost ((e14, 3) ∷ []) 4 1 ≡ 3) × (cost ((e14, 3) ∷ []) 0 4 ≡ 1)
cost41 = (refl, refl)
