-- For private clauses.
-- A star and a region through an edit.
use Rattle.std.specs.Prelude.{◌≡◌, ℕ, ◌+◌, ◌-◌, ◌<◌, Bool, true, false, nat_eq, if◌then◌else◌, List, [], ◌∷◌, map, length, slice_index_or, Option, Some, None}
use Rattle.plane.specs.declared.coordinates.Point.{Point}
use Rattle.plane.specs.declared.segment.Pair.{Pair}
use Rattle.partition_defs.specs.Partition.{HasEnds}
use Rattle.star.specs.Stars.{Seen, IsStar, IsNeighbour, HasMark, IsFree, SamePlace}
use Rattle.journal_defs.specs.declared.edit.Edit.{Edit}
use Rattle.journal_defs.specs.declared.edit.Edit.TheVariants.{Drop, Keep, Flip}
use Rattle.journal_defs.specs.Edits.{is_end, touches}
use Rattle.journal_defs.specs.Neighbours.{list_after}
use Rattle.journal_defs.specs.Turns.{AreMutual}
use Rattle.edit.specs.declared.look.Look.{Look}
use Rattle.edit.specs.Plans.{are_touching}
use Rattle.plan_defs.specs.Plans.{Sight, has_look, look_at, star_in}
use Rattle.plan_defs.specs.Shown.{AreApart, sight_after, region_after}
use Rattle.planner.specs.Region.{sight, sights, AreFor}

-- each slot has a look
abbrev pub AreFilled : List (Option Look) → Type 0
AreFilled [] = Unit {0}
AreFilled (None ∷ slots) = ⊥
AreFilled (Some l ∷ slots) = AreFilled slots

-- the first look of v stands at k, or there is none
abbrev pub IsPlaceIn : List Look → ℕ → Option ℕ → Type 0
IsPlaceIn R v None = (k : ℕ) (d : Look) → k < length R → ¬ ((slice_index_or R k d).star.centre ≡ v)
IsPlaceIn R v (Some k) =
    (k < length R) × ((d : Look) → (slice_index_or R k d).star.centre ≡ v)
    × ((j : ℕ) (d : Look) → j < k → ¬ ((slice_index_or R j d).star.centre ≡ v))

-- the room in the star of v
abbrev pub room_at : List Look → ℕ → ℕ
room_at [] v = 0
room_at (l ∷ R) v = if nat_eq l.star.centre v then l.star.spare else room_at R v

-- the region's star of v, with its room
abbrev pub held_star : List Point → List Look → ℕ → Seen
held_star S R v = record { centre = v; list = (look_at (sights R) v).list; spare = room_at R v; points = S }

-- how much room an edit leaves in the star of v
abbrev pub room_after : Edit → (v room : ℕ) → ℕ
room_after (Drop e) v n = n
room_after (Keep e) v n = n
room_after (Flip e f) v n = if is_end e v then n + 1 else n - 1

-- a star from which the other end of e can go, or to which that of f can come
pub record CanFlip (S : List Point) (e f : Pair) (a : Seen) : Type 0 where
  pub there : (w : ℕ) → HasEnds e a.centre w → IsNeighbour a w
  pub free : (w : ℕ) → HasEnds f a.centre w → IsFree a w
  pub room : is_end f a.centre ≡ true → 0 < a.spare
  pub within : f.hi < length S
  pub apart : is_end e a.centre ≡ true → is_end f a.centre ≡ true → ⊥

-- the star of a touched vertex can take the edit's step
abbrev pub CanStep : List Point → Edit → Seen → Type 0
CanStep S (Drop e) a = (w : ℕ) → HasEnds e a.centre w → HasMark a w true
CanStep S (Keep e) a = (w : ℕ) → HasEnds e a.centre w → HasMark a w false
CanStep S (Flip e f) a = CanFlip S e f a

-- it has taken the step
pub record HasStepped (S : List Point) (e : Edit) (a b : Seen) : Type 0 where
  pub list : b.list ≡ list_after S a.centre e a.list
  pub place : SamePlace a b
  pub order : IsStar b
  pub room : b.spare ≡ room_after e a.centre a.spare

-- a star is for the points S and has the centre v
abbrev pub IsStarFor : List Point → Seen → ℕ → Type 0
IsStarFor S s v = IsStar s × (s.centre ≡ v) × (s.points ≡ S)

-- what is known of a region between its edits
pub record AreHeld (S : List Point) (R : List Look) : Type 0 where
  pub points : AreFor S R
  pub stars : (v : ℕ) → has_look (sights R) v ≡ true → IsStarFor S (star_in S (sights R) v) v
  pub apart : AreApart (sights R)

-- of two stars of the region each has the other where one has it, with the same mark
abbrev pub HaveEachOther : List Point → List Look → Type 0
HaveEachOther S R = AreMutual (star_in S (sights R)) (λ v. has_look (sights R) v ≡ true)

-- the star of v can take the step
pub record IsReady (S : List Point) (e : Edit) (R : List Look) (v : ℕ) : Type 0 where
  pub looked : has_look (sights R) v ≡ true
  pub touched : touches e v ≡ true
  pub can : CanStep S e (held_star S R v)

-- the looks at these vertices take the step
abbrev pub stepped : List Point → Edit → (ℕ → Bool) → List Sight → List Sight
stepped S e at R = map (λ (l : Sight). if at l.vertex then sight_after S e l else l) R

-- they have taken it
pub record HaveStepped (S : List Point) (e : Edit) (at : ℕ → Bool) (old new : List Look) : Type 0 where
  pub told : sights new ≡ stepped S e at (sights old)
  pub held : AreHeld S new
  pub room : (v : ℕ) → has_look (sights old) v ≡ true → at v ≡ true → room_at new v ≡ room_after e v (room_at old v)
  pub rest : (v : ℕ) → at v ≡ false → room_at new v ≡ room_at old v

-- the region has taken the edit
pub record HasMade (S : List Point) (e : Edit) (old new : List Look) : Type 0 where
  pub told : sights new ≡ region_after S e (sights old)
  pub held : AreHeld S new
  pub room : (v : ℕ) → has_look (sights old) v ≡ true → touches e v ≡ true → room_at new v ≡ room_after e v (room_at old v)
  pub rest : (v : ℕ) → touches e v ≡ false → room_at new v ≡ room_at old v

-- one look has taken the step
pub record HasLookStepped (S : List Point) (e : Edit) (l m : Look) : Type 0 where
  pub star : HasStepped S e l.star m.star
  pub stamp : m.stamp ≡ l.stamp

-- the slot's look can take the step
pub record IsSlotReady (S : List Point) (e : Edit) (slot : Option Look) : Type 0 where
  pub look : Look
  pub is : slot ≡ Some look
  pub points : S ≡ look.star.points
  pub touched : touches e look.star.centre ≡ true
  pub can : CanStep S e look.star

-- it has taken it
pub record HasSlotStepped (S : List Point) (e : Edit) (old new : Option Look) : Type 0 where
  pub look : Look
  pub is : old ≡ Some look
  pub next : Look
  pub becomes : new ≡ Some next
  pub stepped : HasLookStepped S e look next

-- an edit of a mark alone
abbrev pub IsMark : Edit → Type 0
IsMark (Drop e) = Unit {0}
IsMark (Keep e) = Unit {0}
IsMark (Flip e f) = ⊥

-- all that the edits touch was looked at
abbrev pub AreLooked : List Look → List Edit → Type 0
AreLooked R es = (v : ℕ) → are_touching es v ≡ true → has_look (sights R) v ≡ true

-- the slot's look is as before but for the room in its star, which is there where room was found
pub record HasSlotRoom (old new : Option Look) (found : Bool) : Type 0 where
  pub look : Look
  pub is : old ≡ Some look
  pub next : Look
  pub becomes : new ≡ Some next
  pub sight : sight next ≡ sight look
  pub points : next.star.points ≡ look.star.points
  pub room : found ≡ true → 0 < next.star.spare

-- there is room at v where it was found, and elsewhere the room is as before
pub record HasRoomAt (v : ℕ) (found : Bool) (old new : List Look) : Type 0 where
  pub told : sights new ≡ sights old
  pub points : (S : List Point) → AreFor S old → AreFor S new
  pub room : found ≡ true → 0 < room_at new v
  pub rest : (w : ℕ) → ¬ (v ≡ w) → room_at new w ≡ room_at old w

-- so of each
abbrev pub AreMarks : List Edit → Type 0
AreMarks [] = Unit {0}
AreMarks (e ∷ es) = IsMark e × AreMarks es

-- edits of marks that can be tried on the region
pub record CanTry (S : List Point) (R : List Look) (es : List Edit) : Type 0 where
  pub held : AreHeld S R
  pub each_other : HaveEachOther S R
  pub looked : AreLooked R es
  pub marks : AreMarks es

-- the region is as it was before the trial, with as much room
pub record IsTried (S : List Point) (old new : List Look) : Type 0 where
  pub held : AreHeld S new
  pub told : sights new ≡ sights old
  pub room : (v : ℕ) → room_at new v ≡ room_at old v

-- there is room for a neighbour at both ends of the pair
abbrev pub HasRoomFor : Pair → List Look → Type 0
HasRoomFor e R = (v : ℕ) → is_end e v ≡ true → 0 < room_at R v
