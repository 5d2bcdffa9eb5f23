-- For private clauses.
-- One star in hand through an edit, and all of them.
use Rattle.std.specs.Prelude.{◌≡◌, ℕ, ◌+◌, ◌<◌, ◌≤◌, true, nat_eq, if◌then◌else◌, List, [], ◌∷◌, Option, Some, None}
use Rattle.plane.specs.declared.coordinates.Point.{Point}
use Rattle.star.specs.Stars.{Seen}
use Rattle.journal_defs.specs.declared.edit.Edit.{Edit}
use Rattle.journal_defs.specs.declared.commit.Commit.{Commit}
use Rattle.journal_defs.specs.Edits.{State, IsSound, IsLegal}
use Rattle.edit.specs.declared.look.Look.{Look}
use Rattle.edit.specs.Steps.{puts_in}
use Rattle.hands.specs.Hands.{hand_of, hand_after, restamped, IsRight}

-- the star of the first look at v, or none
abbrev pub star_of_hand : List Look → ℕ → Option Seen
star_of_hand [] v = None
star_of_hand (l ∷ hands) v = if nat_eq l.star.centre v then Some l.star else star_of_hand hands v

-- the star is right in a sound state in which the edit is legal, and where the edit puts a neighbour in there is room
pub record CanChange (S : List Point) (e : Edit) (l : Look) : Type 0 where
  pub state : State
  pub sound : IsSound S state
  pub legal : IsLegal S state e
  pub right : IsRight S state (hand_of l)
  pub room : puts_in e l.star.centre ≡ true → 0 < l.star.spare

-- the star has taken the edit's step, and lost at most one place of its room
pub record HasChanged (S : List Point) (e : Edit) (old new : Look) : Type 0 where
  pub hand : hand_of new ≡ hand_after S e (hand_of old)
  pub room : old.star.spare ≤ new.star.spare + 1

-- the same hand, in whose star there is room for n neighbours
pub record IsRoomier (n : ℕ) (old new : Look) : Type 0 where
  pub hand : hand_of new ≡ hand_of old
  pub room : n ≤ new.star.spare

-- the same star with the commit's number as its stamp, where the commit touches its vertex
abbrev pub IsRestamped : Commit → ℕ → Look → Look → Type 0
IsRestamped c n old new = hand_of new ≡ restamped c n (hand_of old)
