-- For private clauses.
-- Chains of points, the last point first.
use Rattle.std.specs.Prelude.{ℕ, List, [], ◌∷◌, Option, Some, None}

-- the last side of a chain: its last point but one, and its last
abbrev pub last_side : List ℕ → Option (ℕ × ℕ)
last_side [] = None
last_side (b ∷ []) = None
last_side (b ∷ (a ∷ r)) = Some (a, b)

-- all points but the last
abbrev pub shortened : List ℕ → List ℕ
shortened [] = []
shortened (b ∷ r) = r
