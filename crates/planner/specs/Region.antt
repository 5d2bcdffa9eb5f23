-- A region: looks of different vertices.
use Rattle.std.specs.Prelude.{◌≡◌, ℕ, ◌≤◌, ◌⊎◌, true, nat_eq, if◌then◌else◌, List, [], ◌∷◌, map, length, Option, Some, None}
use Rattle.std.specs.List.{All}
use Rattle.plane.specs.declared.coordinates.Point.{Point}
use Rattle.star.specs.Stars.{Seen}
use Rattle.edit.specs.declared.look.Look.{Look}
use Rattle.plan_defs.specs.Plans.{Sight, has_look, star_in}
use Rattle.plan_defs.specs.Shown.{AreApart}
use Rattle.journal_defs.specs.Agree.{AreAgreeing}

-- the looks of the slots that are filled
abbrev pub held : List (Option Look) → List Look
held [] = []
held (None ∷ slots) = held slots
held (Some l ∷ slots) = l ∷ held slots

-- what a look tells: its star's centre and list, and its stamp
abbrev pub sight : Look → Sight
sight l = record { vertex = l.star.centre; list = l.star.list; stamp = l.stamp }

abbrev pub sights : List Look → List Sight
sights R = map sight R

-- the star of the look at v, or none where there is no such look
abbrev pub star_of_look : List Look → ℕ → Option Seen
star_of_look [] v = None
star_of_look (l ∷ R) v = if nat_eq l.star.centre v then Some l.star else star_of_look R v

-- all stars are for these points
abbrev pub AreFor : List Point → List Look → Type 0
AreFor S R = All (λ (l : Look). l.star.points ≡ S) R

-- at most 16 looks, no two of them of one vertex
pub record IsRegion (R : List Look) : Type 0 where
  pub few : length R ≤ 16
  pub apart : AreApart (sights R)

-- there are 16 looks, or one of the same vertex
abbrev pub IsNoPlaceFor : Look → List Look → Type 0
IsNoPlaceFor l R = (length R ≡ 16) ⊎ (has_look (sights R) l.star.centre ≡ true)

-- the stars of the region agree
abbrev pub DoAgree : List Point → List Look → Type 0
DoAgree S R = AreAgreeing S (star_in S (sights R)) (λ v. has_look (sights R) v ≡ true)

-- the looks are as before but for the room in their stars, which are for these points
pub record IsAsBefore (S : List Point) (old new : List Look) : Type 0 where
  pub told : sights new ≡ sights old
  pub points : AreFor S new
