-- For private clauses.
-- A subdivision through edits.
use Rattle.std.specs.Prelude.{◌≡◌, ℕ, List}
use Rattle.std.specs.List.{Any}
use Rattle.plane.specs.declared.coordinates.Point.{Point}
use Rattle.subdivision.specs.Layout.{Layout, IsSubdivision}
use Rattle.journal_defs.specs.declared.edit.Edit.{Edit}
use Rattle.journal_defs.specs.declared.edit.Why.{Why}
use Rattle.journal_defs.specs.Edits.{State, IsSound, IsLegal}
use Rattle.journal_defs.specs.Neighbours.{IsWhy}
use Rattle.replay.specs.Machine.{layers}
use Rattle.replay.specs.declared.fault.ApplyFault.{ApplyFault}
use Rattle.replay.specs.declared.fault.ApplyFault.TheVariants.{WrongSeq, Illegal, NoMemory}
use Rattle.replay.specs.Applied.{IsFirstFault, IsFlip}
use Rattle.replay.specs.Room.{LosesRoom}

-- a subdivision of these points whose kept segments are a convex partition
pub record IsSoundLayout (S : List Point) (a : Layout) : Type 0 where
  pub of : S ≡ a.points
  pub subdivision : IsSubdivision a
  pub sound : IsSound S (layers a)

-- it is of the same points and has become that of this state, with so much less room at most
pub record HasBecome (m : ℕ) (s : State) (old new : Layout) : Type 0 where
  pub points : new.points ≡ old.points
  pub subdivision : IsSubdivision new
  pub state : layers new ≡ s
  pub room : LosesRoom m old.stars new.stars

-- it is of the same points and has become that of this state
pub record HasTurned (s : State) (old new : Layout) : Type 0 where
  pub points : new.points ≡ old.points
  pub subdivision : IsSubdivision new
  pub state : layers new ≡ s

-- the edit isn't legal, and why
pub record IsFault (S : List Point) (s : State) (e : Edit) (why : Why) : Type 0 where
  pub illegal : ¬ IsLegal S s e
  pub tells : IsWhy S s e why

-- why the edits of a commit weren't made
abbrev pub IsEditFault : List Point → State → List Edit → ApplyFault → Type 0
IsEditFault S s edits (WrongSeq wanted) = ⊥
IsEditFault S s edits (Illegal at why) = IsFirstFault S s edits at why
IsEditFault S s edits NoMemory = Any IsFlip edits
