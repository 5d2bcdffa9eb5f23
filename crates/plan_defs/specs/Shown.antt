-- Regions whose looks show one state, and a region after an edit.
use Rattle.std.specs.Prelude.{◌≡◌, ℕ, ◌<◌, true, false, List, [], ◌∷◌, map, length}
use Rattle.plane.specs.declared.coordinates.Point.{Point}
use Rattle.cost_defs.specs.Costs.{Costed}
use Rattle.journal_defs.specs.declared.edit.Edit.{Edit}
use Rattle.journal_defs.specs.Edits.{State}
use Rattle.journal_defs.specs.Journal.{AreLegal}
use Rattle.journal_defs.specs.Neighbours.{star_list, list_after}
use Rattle.edit.specs.Plans.{are_touching}
use Rattle.plan_defs.specs.Plans.{Sight, has_look, look_at, IsNoDearer}

-- each look is at a point, and shows its star in the state
abbrev pub ShowsState : List Point → State → List Sight → Type 0
ShowsState S s R = (v : ℕ) → has_look R v ≡ true → (v < length S) × ((look_at R v).list ≡ star_list S s v)

-- Edits that a worker who looked at these vertices of the state may plan: it looked at all that they touch, each is legal
-- in its turn, and the Keeps don't cost more than the Drops.
pub record AreFine (S : List Point) (D : List Costed) (s : State) (looked : ℕ → Type 0) (es : List Edit) : Type 0 where
  pub looks : (v : ℕ) → are_touching es v ≡ true → looked v
  pub legal : AreLegal S s es
  pub cheap : IsNoDearer D es

-- no two looks are of one vertex
abbrev pub AreApart : List Sight → Type 0
AreApart [] = Unit {0}
AreApart (l ∷ R) = (has_look R l.vertex ≡ false) × AreApart R

-- a look after an edit: its list has taken the edit's step
abbrev pub sight_after : List Point → Edit → Sight → Sight
sight_after S e l = record l { list = list_after S l.vertex e l.list }

-- a region after an edit, whether it fits or not
abbrev pub region_after : List Point → Edit → List Sight → List Sight
region_after S e R = map (sight_after S e) R
