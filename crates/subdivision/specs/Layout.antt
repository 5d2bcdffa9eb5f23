-- A triangulation with its kept segments, told by the stars of all points.
use Rattle.std.specs.Prelude.{◌≡◌, ℕ, ◌<◌, Bool, ◌&&◌, nat_eq, List, [], length, filter, slice_index_or, slice_get, Option, Some, None}
use Rattle.std.specs.List.{list_any}
use Rattle.plane.specs.declared.coordinates.Point.{Point}
use Rattle.plane.specs.declared.segment.Pair.{Pair}
use Rattle.partition_defs.specs.Partition.{Joins}
use Rattle.partition_defs.specs.Triangulation.{IsTriangulation, IsApex, HasLeft}
use Rattle.star.specs.Stars.{Seen}
use Rattle.star.specs.StarOf.{IsStarOf}
use Rattle.partition_defs.specs.Ascending.{IsAscending}
use Rattle.partition_defs.specs.Sets.{AreAmong}
use Rattle.subdivision.specs.Every.{every_pair}

-- what contracts see of a subdivision: its points, its segments and those that are kept, ascending, and the stars
pub record Layout : Type 0 where
  pub points : List Point
  pub all : List Pair
  pub kept : List Pair
  pub stars : List Seen

-- the star of a vertex
abbrev pub star_at : List Seen → ℕ → Seen
star_at stars v = slice_index_or stars v (record { centre = 0; list = []; spare = 0; points = [] })

abbrev pub star_or_none : List Seen → ℕ → Option Seen
star_or_none stars v = slice_get stars v

-- whether w is a neighbour, or a kept one
abbrev pub has : Seen → ℕ → Bool
has s w = list_any (λ (e : ℕ × Bool). nat_eq e.0 w) s.list

abbrev pub keeps : Seen → ℕ → Bool
keeps s w = list_any (λ (e : ℕ × Bool). nat_eq e.0 w && e.1) s.list

-- the segments that the stars of their smaller ends tell, ascending
abbrev pub all_of : List Seen → List Pair
all_of stars = filter (λ e. has (star_at stars e.lo) e.hi) (every_pair (length stars))

abbrev pub kept_of : List Seen → List Pair
kept_of stars = filter (λ e. keeps (star_at stars e.lo) e.hi) (every_pair (length stars))

-- each star is that of its vertex in (T, K)
abbrev pub AreStarsOf : List Point → (T K : List Pair) → List Seen → Type 0
AreStarsOf S T K stars = (length stars ≡ length S) × ((v : ℕ) → v < length S → IsStarOf S T K v (star_at stars v))

-- T triangulates the points, K is in T, and the stars are those of (T, K)
pub record AreOf (S : List Point) (T K : List Pair) (stars : List Seen) : Type 0 where
  pub triangulation : IsTriangulation S T
  pub among : AreAmong K T
  pub round : AreStarsOf S T K stars

-- the stars are those of some triangulation with kept segments
abbrev pub AreAgreed : List Point → List Seen → Type 0
AreAgreed S stars = (T : List Pair) × (K : List Pair) × AreOf S T K stars

-- what is true of every subdivision
pub record IsSubdivision (s : Layout) : Type 0 where
  pub ascending : IsAscending s.all
  pub kept_ascending : IsAscending s.kept
  pub agreed : AreOf s.points s.all s.kept s.stars

-- the apex of p to q, which alone is one, or none where p-q isn't a segment or no point is left of it
abbrev pub IsApexOrNone : List Point → List Pair → (p q : ℕ) → Option ℕ → Type 0
IsApexOrNone S T p q (Some r) = Joins T p q × IsApex S T p q r × ((a : ℕ) → IsApex S T p q a → a ≡ r)
IsApexOrNone S T p q None = Joins T p q → ¬ HasLeft S p q
