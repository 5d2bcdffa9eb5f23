-- For private clauses.
-- Sides, pairs and triangles among points that their order and the signs of three of them tell. (Textbook.)
use Rattle.std.specs.Prelude.{◌≡◌, ◌≢◌, ℕ, ℤ, pos, ◌<◌, ◌⊎◌, ◌<ℤ◌, ◌≤ℤ◌}
use Rattle.plane.specs.Geometry.{AreOpposite}

-- n points as a part of the border sees them: which come before which, and the sign of each three
pub record Sight : Type 1 where
  pub count : ℕ
  pub Before : (i j : ℕ) → Type 0
  pub sign : (i j k : ℕ) → ℤ

-- i comes no later than j
abbrev pub UpTo : (B : ℕ → ℕ → Type 0) (i j : ℕ) → Type 0
UpTo B i j = (i ≡ j) ⊎ B i j

-- all the points with Q are on the left of a to b, or on it
abbrev pub AllLeft : (V : Sight) (Q : ℕ → Type 0) (a b : ℕ) → Type 0
AllLeft V Q a b = (s : ℕ) → s < V.count → Q s → pos 0 ≤ℤ V.sign a b s

-- no point is between a and b
abbrev pub Clear : (V : Sight) (a b : ℕ) → Type 0
Clear V a b = (s : ℕ) → s < V.count → V.Before a s → V.Before s b → V.sign a s b ≢ pos 0

-- the points after a and before z are strictly left of a to z
abbrev pub Beyond : (V : Sight) (a z : ℕ) → Type 0
Beyond V a z = (s : ℕ) → s < V.count → V.Before a s → V.Before s z → pos 0 <ℤ V.sign a z s

-- the segments a-b and c-d cross
abbrev pub Cross : (o : ℕ → ℕ → ℕ → ℤ) (a b c d : ℕ) → Type 0
Cross o a b c d = AreOpposite (o a b c) (o a b d) × AreOpposite (o c d a) (o c d b)

-- s is in the closed triangle p q r
abbrev pub Inside : (o : ℕ → ℕ → ℕ → ℤ) (p q r s : ℕ) → Type 0
Inside o p q r s = (pos 0 ≤ℤ o p q s) × (pos 0 ≤ℤ o q r s) × (pos 0 ≤ℤ o r p s)

-- no further point is in the closed triangle p q r
pub record Empty (V : Sight) (p q r : ℕ) : Type 0 where
  pub none : (s : ℕ) → s < V.count → s ≢ p → s ≢ q → s ≢ r → ¬ Inside V.sign p q r s
