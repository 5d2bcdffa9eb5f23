-- For private clauses.
-- The sweep's front over a list of points: the pairs so far, and the lower and the upper chain, the last point first.
use Rattle.std.specs.Prelude.{◌≡◌, ◌+◌, ◌*◌, ◌<◌, ℕ, ℤ, pos, neg_ℤ, ◌<ℤ◌, List, [], ◌∷◌, length}
use Rattle.plane.specs.declared.coordinates.Point.{Point}
use Rattle.plane.specs.declared.segment.Pair.{Pair}
use Rattle.plane.specs.Geometry.{orientation}
use Rattle.plane.specs.Accepted.{AreApart, AreAccepted}
use Rattle.partition_defs.specs.Partition.{Joins}
use Rattle.partition_defs.specs.Triangulation.{AreDistinct}
use Rattle.partition_defs.specs.Sweep.{IsSweptBefore}
use Rattle.triangulate.specs.declared.sweep.Part.{Part}
use Rattle.triangulate.specs.declared.sweep.Part.TheVariants.{Lower, Upper}
use Rattle.triangulate.specs.Sides.{Sight, UpTo}
use Rattle.triangulate.specs.Front.{Whole, strand, Joining, Settled}

-- the orientation turned over
abbrev pub opposite : List Point → (p q r : ℕ) → ℤ
opposite S p q r = neg_ℤ (orientation S p q r)

-- the orientation as a part of the border sees it: what lies beyond the part is to the right of its sides
abbrev pub turn : Part → List Point → (p q r : ℕ) → ℤ
turn Lower S = orientation S
turn Upper S = opposite S

-- and as the other part sees it
abbrev pub other_turn : Part → List Point → (p q r : ℕ) → ℤ
other_turn Lower S = opposite S
other_turn Upper S = orientation S

abbrev pub other_part : Part → Part
other_part Lower = Upper
other_part Upper = Lower

-- the points in the order of the sweep, with these signs
abbrev pub swept_sight : List Point → (ℕ → ℕ → ℕ → ℤ) → Sight
swept_sight S o = record { count = length S; Before = IsSweptBefore S; sign = o }

-- while z is joined, with both chains of some point: the chain l of this part, the chain l2 of the other
abbrev pub AreJoining : List Point → Part → List Pair → (l l2 : List ℕ) → (z last : ℕ) → Type 0
AreJoining S part T [] l2 z last = ⊥
AreJoining S part T (t ∷ r) [] z last = ⊥
AreJoining S part T (t ∷ r) (t2 ∷ r2) z last =
    Joining (swept_sight S (turn part S)) (swept_sight S (other_turn part S)) (Joins T) (strand t r) (strand t2 r2) z last

-- what else stands while a point is joined: the other part's chain, the last point before it, and how many came before
pub record Round : Type 0 where
  pub others : List ℕ
  pub last : ℕ
  pub count : ℕ

-- the front while z is joined from the part whose chain is l
pub record IsJoining (S : List Point) (part : Part) (T : List Pair) (l : List ℕ) (z : ℕ) (round : Round) : Type 0 where
  pub apart : AreApart S
  pub chains : AreJoining S part T l round.others z round.last
  pub distinct : AreDistinct T
  pub count : length T + length l + length round.others ≡ 3 * round.count

abbrev pub AreWhole : List Point → List Pair → (l l2 : List ℕ) → ℕ → Type 0
AreWhole S T [] l2 z = ⊥
AreWhole S T (t ∷ r) [] z = ⊥
AreWhole S T (t ∷ r) (t2 ∷ r2) z = (t ≡ z) × (t2 ≡ z) × Whole (swept_sight S (orientation S)) (swept_sight S (opposite S)) (Joins T) r r2 z

-- the front after k points, of which z is the last
pub record IsSwept (S : List Point) (T : List Pair) (l l2 : List ℕ) (z k : ℕ) : Type 0 where
  pub apart : AreApart S
  pub chains : AreWhole S T l l2 z
  pub distinct : AreDistinct T
  pub count : length T + length l + length l2 + 1 ≡ 3 * k

-- z doesn't see the last side of the chain
abbrev pub IsSettled : (o : ℕ → ℕ → ℕ → ℤ) → List ℕ → ℕ → Type 0
IsSettled o [] z = Unit {0}
IsSettled o (t ∷ r) z = Settled o t r z

-- z sees the last side of the chain, which begins at a
pub record SeesLastSide (o : ℕ → ℕ → ℕ → ℤ) (l : List ℕ) (z a : ℕ) : Type 0 where
  pub b : ℕ
  pub r : List ℕ
  pub is : l ≡ b ∷ (a ∷ r)
  pub right : o a b z <ℤ pos 0

-- z is the next point after the point last
pub record IsSweptNext (S : List Point) (last z : ℕ) : Type 0 where
  pub within : z < length S
  pub before : IsSweptBefore S last z
  pub next : (s : ℕ) → s < length S → IsSweptBefore S s z → UpTo (IsSweptBefore S) s last

-- the front after all points
pub record IsSweptWhole (S : List Point) (T : List Pair) (l l2 : List ℕ) : Type 0 where
  pub accepted : AreAccepted S
  pub z : ℕ
  pub swept : IsSwept S T l l2 z (length S)
  pub all : (s : ℕ) → s < length S → UpTo (IsSweptBefore S) s z
