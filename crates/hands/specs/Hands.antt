-- What a caller has in hand of some vertices, when it is right, and what an edit makes of it.
use Rattle.std.specs.Prelude.{◌≡◌, ℕ, ◌<◌, ◌≤◌, ◌⊎◌, true, false, Bool, if◌then◌else◌, List, [], ◌∷◌, map, length}
use Rattle.std.specs.List.{AllByRecursion}
use Rattle.plane.specs.declared.coordinates.Point.{Point}
use Rattle.journal_defs.specs.declared.edit.Edit.{Edit}
use Rattle.journal_defs.specs.declared.edit.Edit.TheVariants.{Drop, Keep, Flip}
use Rattle.journal_defs.specs.declared.commit.Commit.{Commit}
use Rattle.journal_defs.specs.Edits.{State, touches}
use Rattle.journal_defs.specs.Journal.{last, commit_touches}
use Rattle.journal_defs.specs.Neighbours.{star_list, list_after}
use Rattle.edit.specs.declared.look.Look.{Look}

-- a vertex, the list of its star, the points that the star is for, and a stamp
pub record Hand : Type 0 where
  pub vertex : ℕ
  pub list : List (ℕ × Bool)
  pub points : List Point
  pub stamp : ℕ

-- what a star with a stamp shows, but for its room
abbrev pub hand_of : Look → Hand
hand_of l = record { vertex = l.star.centre; list = l.star.list; points = l.star.points; stamp = l.stamp }

abbrev pub hands_of : List Look → List Hand
hands_of looks = map hand_of looks

-- in each star there is room for n neighbours
abbrev pub HaveRoom : ℕ → List Look → Type 0
HaveRoom n looks = AllByRecursion (λ (l : Look). n ≤ l.star.spare) looks

abbrev pub vertices : List Hand → List ℕ
vertices hands = map (λ (h : Hand). h.vertex) hands

-- the star is that of a point in the state
pub record IsRight (S : List Point) (s : State) (h : Hand) : Type 0 where
  pub within : h.vertex < length S
  pub points : h.points ≡ S
  pub list : h.list ≡ star_list S s h.vertex

abbrev pub AreRight : List Point → State → List Hand → Type 0
AreRight S s hands = AllByRecursion (IsRight S s) hands

-- the stamp is the number of the last commit that touches the vertex
abbrev pub IsStamped : List Commit → Hand → Type 0
IsStamped J h = h.stamp ≡ last J h.vertex

abbrev pub AreStamped : List Commit → List Hand → Type 0
AreStamped J hands = AllByRecursion (IsStamped J) hands

-- a vertex is in hand
abbrev pub IsInHand : List Hand → ℕ → Type 0
IsInHand [] v = ⊥
IsInHand (h ∷ hands) v = (h.vertex ≡ v) ⊎ IsInHand hands v

-- the hands after an edit, and after several
abbrev pub hand_after : List Point → Edit → Hand → Hand
hand_after S e h = record h { list = list_after S h.vertex e h.list }

abbrev pub hands_after : List Point → Edit → List Hand → List Hand
hands_after S e hands = map (hand_after S e) hands

abbrev pub hands_after_all : List Point → List Edit → List Hand → List Hand
hands_after_all S [] hands = hands
hands_after_all S (e ∷ es) hands = hands_after_all S es (hands_after S e hands)

-- a hand with the number of a commit as its stamp, where the commit touches it
abbrev pub restamped : Commit → ℕ → Hand → Hand
restamped c n h = if commit_touches c h.vertex then record h { stamp = n } else h

abbrev pub is_flip : Edit → Bool
is_flip (Drop e) = false
is_flip (Keep e) = false
is_flip (Flip e f) = true

-- all that each edit touches is in hand
abbrev pub AreCovered : List Hand → List Edit → Type 0
AreCovered hands [] = Unit {0}
AreCovered hands (e ∷ es) = ((v : ℕ) → touches e v ≡ true → IsInHand hands v) × AreCovered hands es
