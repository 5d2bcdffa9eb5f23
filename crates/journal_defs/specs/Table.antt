-- The table by which an edit fits, read on stars alone: on those of the ends of the pair that it drops, keeps or takes
-- out, and of the smaller end of a pair that it puts in.
use Rattle.std.specs.Prelude.{◌≡◌, ℕ, ◌⊎◌, true, List, [], Option, Some, IsSome, unwrap_or, pos, ◌<ℤ◌}
use Rattle.plane.specs.declared.coordinates.Point.{Point}
use Rattle.plane.specs.declared.segment.Pair.{Pair}
use Rattle.plane.specs.Geometry.{orientation, IsBorderPair, IsInner}
use Rattle.partition_defs.specs.Partition.{HasEnds}
use Rattle.star.specs.Stars.{Seen, IsNeighbour, HasMark, IsNext}
use Rattle.journal_defs.specs.Edits.{touches}
use Rattle.star.specs.Gaps.{MeetsWithout, MissesWithout}
use Rattle.journal_defs.specs.declared.edit.Edit.{Edit}
use Rattle.journal_defs.specs.declared.edit.Edit.TheVariants.{Drop, Keep, Flip}
use Rattle.journal_defs.specs.declared.edit.Why.{Why}
use Rattle.journal_defs.specs.declared.edit.Why.TheVariants.{NotThere, NotKept, NotSpare, Border, Opens, AlreadyThere, NotApex, Bent}

-- the star is for the points S and has the centre v
abbrev pub IsAt : List Point → Seen → ℕ → Type 0
IsAt S star v = (S ≡ star.points) × (star.centre ≡ v)

-- what a value with stars for some vertices shows at v; where it has none, a star without neighbours
abbrev pub seen_of : (ℕ → Option Seen) → ℕ → Seen
seen_of star v = unwrap_or (star v) (record { centre = 0; list = []; spare = 0; points = [] })

-- it has a star of each vertex that the edit touches, for the points S and with that vertex as its centre
abbrev pub HasStarsFor : List Point → (ℕ → Option Seen) → Edit → Type 0
HasStarsFor S star e = (v : ℕ) → touches e v ≡ true → IsSome (star v) × IsAt S (seen_of star v) v

-- a pair is in T, or in K, as the star of its smaller end says
abbrev pub Shows : Seen → Pair → Type 0
Shows low e = IsNeighbour low e.hi

abbrev pub ShowsKept : Seen → Pair → Type 0
ShowsKept low e = HasMark low e.hi true

-- no need of the centre v opens without its pair with w: where v is inner, its other kept neighbours meet all its needs
abbrev pub StaysMet : List Point → Seen → (v w : ℕ) → Type 0
StaysMet S star v w = IsInner S v → MeetsWithout star w

-- a need of the inner point v opens without its pair with w
abbrev pub IsOpened : List Point → Seen → (v w : ℕ) → Type 0
IsOpened S star v w = IsInner S v × MissesWithout star w

-- v is the least end of e at which a need opens
abbrev pub IsFirstOpened : List Point → (low high : Seen) → Pair → ℕ → Type 0
IsFirstOpened S low high e v =
    ((v ≡ e.lo) × IsOpened S low e.lo e.hi) ⊎ ((v ≡ e.hi) × StaysMet S low e.lo e.hi × IsOpened S high e.hi e.lo)

-- r is the apex of p to q: the neighbour after q in the star of p, strictly left
abbrev pub ShowsApex : List Point → Seen → (p q r : ℕ) → Type 0
ShowsApex S star p q r = IsNext star q (Some r) × (pos 0 <ℤ orientation S p q r)

-- v is an apex of e in one of its directions
abbrev pub IsEitherApex : List Point → (low high : Seen) → Pair → ℕ → Type 0
IsEitherApex S low high e v = ShowsApex S low e.lo e.hi v ⊎ ShowsApex S high e.hi e.lo v

-- f joins the apexes k and l of e in its two directions
pub record JoinsApexes (S : List Point) (low high : Seen) (e f : Pair) (k l : ℕ) : Type 0 where
  pub near : ShowsApex S low e.lo e.hi k
  pub far : ShowsApex S high e.hi e.lo l
  pub ends : HasEnds f k l

-- the ends of e are strictly on their own sides of the line from k to l
abbrev pub IsLowRight : List Point → Pair → (k l : ℕ) → Type 0
IsLowRight S e k l = orientation S k l e.lo <ℤ pos 0

abbrev pub IsHighLeft : List Point → Pair → (k l : ℕ) → Type 0
IsHighLeft S e k l = pos 0 <ℤ orientation S k l e.hi

-- no refusal of a Drop applies
pub record FitsDrop (S : List Point) (low high : Seen) (e : Pair) : Type 0 where
  pub there : Shows low e
  pub kept : ShowsKept low e
  pub inside : ¬ IsBorderPair S e.lo e.hi
  pub lower : StaysMet S low e.lo e.hi
  pub upper : StaysMet S high e.hi e.lo

-- no refusal of a Keep applies
pub record FitsKeep (low : Seen) (e : Pair) : Type 0 where
  pub there : Shows low e
  pub spare : ¬ ShowsKept low e

-- no refusal of a Flip of e to f applies; the star of f's smaller end is the last one
pub record FitsFlip (S : List Point) (low high new : Seen) (e f : Pair) : Type 0 where
  pub there : Shows low e
  pub spare : ¬ ShowsKept low e
  pub fresh : ¬ Shows new f
  pub near : ℕ
  pub far : ℕ
  pub apexes : JoinsApexes S low high e f near far
  pub lower : IsLowRight S e near far
  pub upper : IsHighLeft S e near far

-- no refusal of the table applies
abbrev pub Fits : List Point → (ℕ → Seen) → Edit → Type 0
Fits S at (Drop e) = FitsDrop S (at e.lo) (at e.hi) e
Fits S at (Keep e) = FitsKeep (at e.lo) e
Fits S at (Flip e f) = FitsFlip S (at e.lo) (at e.hi) (at f.lo) e f

-- the first refusal of the table that applies
abbrev pub RefusesDrop : List Point → (low high : Seen) → Pair → Why → Type 0
RefusesDrop S low high e NotThere = ¬ Shows low e
RefusesDrop S low high e NotKept = Shows low e × ¬ ShowsKept low e
RefusesDrop S low high e Border = Shows low e × ShowsKept low e × IsBorderPair S e.lo e.hi
RefusesDrop S low high e (Opens v) =
    Shows low e × ShowsKept low e × ¬ IsBorderPair S e.lo e.hi × IsFirstOpened S low high e v
RefusesDrop S low high e _ = ⊥

abbrev pub RefusesKeep : Seen → Pair → Why → Type 0
RefusesKeep low e NotThere = ¬ Shows low e
RefusesKeep low e NotSpare = Shows low e × ShowsKept low e
RefusesKeep low e _ = ⊥

-- e is spare and f isn't in T
abbrev pub IsFresh : (low new : Seen) → (e f : Pair) → Type 0
IsFresh low new e f = Shows low e × ¬ ShowsKept low e × ¬ Shows new f

-- v is the least end of f that is no apex of e
abbrev pub IsFirstNoApex : List Point → (low high : Seen) → (e f : Pair) → ℕ → Type 0
IsFirstNoApex S low high e f v =
    ((v ≡ f.lo) × ¬ IsEitherApex S low high e f.lo)
    ⊎ ((v ≡ f.hi) × IsEitherApex S low high e f.lo × ¬ IsEitherApex S low high e f.hi)

-- v is the least end of e that isn't strictly on its own side
abbrev pub IsFirstBent : List Point → Pair → (k l v : ℕ) → Type 0
IsFirstBent S e k l v =
    ((v ≡ e.lo) × ¬ IsLowRight S e k l) ⊎ ((v ≡ e.hi) × IsLowRight S e k l × ¬ IsHighLeft S e k l)

abbrev pub RefusesFlip : List Point → (low high new : Seen) → (e f : Pair) → Why → Type 0
RefusesFlip S low high new e f NotThere = ¬ Shows low e
RefusesFlip S low high new e f NotSpare = Shows low e × ShowsKept low e
RefusesFlip S low high new e f AlreadyThere = Shows low e × ¬ ShowsKept low e × Shows new f
RefusesFlip S low high new e f (NotApex v) = IsFresh low new e f × IsFirstNoApex S low high e f v
RefusesFlip S low high new e f (Bent v) =
    IsFresh low new e f × ((k : ℕ) × (l : ℕ) × JoinsApexes S low high e f k l × IsFirstBent S e k l v)
RefusesFlip S low high new e f _ = ⊥

abbrev pub Refuses : List Point → (ℕ → Seen) → Edit → Why → Type 0
Refuses S at (Drop e) why = RefusesDrop S (at e.lo) (at e.hi) e why
Refuses S at (Keep e) why = RefusesKeep (at e.lo) e why
Refuses S at (Flip e f) why = RefusesFlip S (at e.lo) (at e.hi) (at f.lo) e f why
