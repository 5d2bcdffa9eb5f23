-- Costs of pairs: what an instance gives, and 1 where it gives none. (This project's own.)
use Rattle.std.specs.Prelude.{◌≢◌, ℕ, ◌≤◌, Bool, cond, ◌&&◌, ◌||◌, nat_eq, List, [], ◌∷◌}
use Rattle.std.specs.List.{All, AllPairs, sum_by}
use Rattle.plane.specs.declared.segment.Pair.{Pair}
use Rattle.plane.specs.First.{ComesBefore}

-- a pair with its cost
abbrev pub Costed : Type 0
Costed = Pair × ℕ

-- whether the pair has the ends i and j, either way round
abbrev pub has_ends : Pair → (i j : ℕ) → Bool
has_ends e i j = (nat_eq e.lo i && nat_eq e.hi j) || (nat_eq e.lo j && nat_eq e.hi i)

-- the cost of the pair i-j
abbrev pub cost : List Costed → (i j : ℕ) → ℕ
cost [] i j = 1
cost (x ∷ D) i j = cond (has_ends x.0 i j) x.1 (cost D i j)

-- the sum of the costs of the listed pairs
abbrev pub total : List Costed → List Pair → ℕ
total D K = sum_by (λ e. cost D e.lo e.hi) K

-- the pair of the first comes before that of the second
abbrev pub IsCostedBefore : (x y : Costed) → Type 0
IsCostedBefore x y = ComesBefore x.0.lo x.0.hi y.0.lo y.0.hi

-- what the costs of an instance are: ascending, so no pair stands twice, with the pairs whose cost isn't 1 alone, and no
-- cost above 1,000
pub record AreCosts (D : List Costed) : Type 0 where
  pub ascending : AllPairs IsCostedBefore D
  pub within : All (λ x. x.1 ≤ 1000) D
  pub other : All (λ x. x.1 ≢ 1) D
