-- Edits of a triangulation with kept pairs: what they do, what they touch, when they are legal. (Textbook flip.)
use Rattle.std.specs.Prelude.{◌≢◌, ℕ, ◌<◌, Bool, ◌||◌, nat_eq, List, [], ◌∷◌, ◌++◌, length}
use Rattle.std.specs.List.{Contains}
use Rattle.plane.specs.declared.coordinates.Point.{Point}
use Rattle.plane.specs.declared.segment.Pair.{Pair}
use Rattle.plane.specs.Geometry.{IsClear, AreCrossing}
use Rattle.partition_defs.specs.Partition.{Joins, IsConvexPartition}
use Rattle.partition_defs.specs.Triangulation.{IsTriangulation}
use Rattle.partition_defs.specs.Ascending.{IsAscending}
use Rattle.journal_defs.specs.declared.edit.Edit.{Edit}
use Rattle.journal_defs.specs.declared.edit.Edit.TheVariants.{Drop, Keep, Flip}
use Rattle.partition_defs.specs.Sets.{without, with_one}

-- a state: the pairs, and those that are kept
pub record State : Type 0 where
  pub all : List Pair
  pub kept : List Pair

-- the state after an edit, whether it is legal or not
abbrev pub after : Edit → State → State
after (Drop e) s = record { all = s.all; kept = without e s.kept }
after (Keep e) s = record { all = s.all; kept = with_one e s.kept }
after (Flip e f) s = record { all = with_one f (without e s.all); kept = s.kept }

-- e is kept, and without it the kept pairs are a convex partition
pub record IsLegalDrop (S : List Point) (s : State) (e : Pair) : Type 0 where
  pub kept : Contains s.kept e
  pub partition : IsConvexPartition S (without e s.kept)

-- e is spare: a pair that isn't kept
pub record IsSpare (s : State) (e : Pair) : Type 0 where
  pub there : Contains s.all e
  pub spare : ¬ Contains s.kept e

-- e is spare, f is a clear pair of points that isn't a pair, and of the pairs it crosses e alone
pub record IsLegalFlip (S : List Point) (s : State) (e f : Pair) : Type 0 where
  pub spare : IsSpare s e
  pub fresh : ¬ Contains s.all f
  pub within : f.hi < length S
  pub clear : IsClear S f.lo f.hi
  pub crosses : AreCrossing S f.lo f.hi e.lo e.hi
  pub alone : (g : Pair) → Contains s.all g → g ≢ e → ¬ AreCrossing S f.lo f.hi g.lo g.hi

abbrev pub IsLegal : List Point → State → Edit → Type 0
IsLegal S s (Drop e) = IsLegalDrop S s e
IsLegal S s (Keep e) = IsSpare s e
IsLegal S s (Flip e f) = IsLegalFlip S s e f

-- an edit touches the ends of its pairs
abbrev pub is_end : Pair → ℕ → Bool
is_end e v = nat_eq e.lo v || nat_eq e.hi v

abbrev pub touches : Edit → ℕ → Bool
touches (Drop e) v = is_end e v
touches (Keep e) v = is_end e v
touches (Flip e f) v = is_end e v || is_end f v

-- the edit that leads back
abbrev pub inverse : Edit → Edit
inverse (Drop e) = Keep e
inverse (Keep e) = Drop e
inverse (Flip e f) = Flip f e

-- that of several: the inverses in reverse order
abbrev pub inverse_all : List Edit → List Edit
inverse_all [] = []
inverse_all (e ∷ es) = inverse_all es ++ inverse e ∷ []

-- both lists ascend, the pairs triangulate the points, and the kept ones are a convex partition among them
pub record IsSound (S : List Point) (s : State) : Type 0 where
  pub all_ascending : IsAscending s.all
  pub kept_ascending : IsAscending s.kept
  pub triangulation : IsTriangulation S s.all
  pub partition : IsConvexPartition S s.kept
  pub among : (e : Pair) → Contains s.kept e → Contains s.all e

-- the states have the same pairs and the same kept pairs at v
pub record AreAlikeAt (s t : State) (v : ℕ) : Type 0 where
  pub all : (w : ℕ) → (Joins s.all v w → Joins t.all v w) × (Joins t.all v w → Joins s.all v w)
  pub kept : (w : ℕ) → (Joins s.kept v w → Joins t.kept v w) × (Joins t.kept v w → Joins s.kept v w)
