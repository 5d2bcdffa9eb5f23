-- For private clauses.
-- Parts of a flip's row in the table of refusals.
use Rattle.std.specs.Prelude.{◌≡◌, ℕ, ◌⊎◌, List, Option, Some, Result, Ok, Err}
use Rattle.plane.specs.declared.coordinates.Point.{Point}
use Rattle.plane.specs.declared.segment.Pair.{Pair}
use Rattle.star.specs.Stars.{Seen}
use Rattle.journal_defs.specs.declared.edit.Why.{Why}
use Rattle.journal_defs.specs.declared.edit.Why.TheVariants.{NotThere, NotSpare, AlreadyThere, NotApex, Bent}
use Rattle.journal_defs.specs.Table.{Shows, ShowsKept, IsFresh, IsLowRight, IsHighLeft, IsFirstBent}

-- e is spare and f isn't in T, or which of these fails first
abbrev pub IsFreshOrWhy : {T : Type 0} → (lower fresh : Seen) → (e f : Pair) → Result T Why → Type 0
IsFreshOrWhy {T} lower fresh e f (Ok _) = IsFresh lower fresh e f
IsFreshOrWhy {T} lower fresh e f (Err NotThere) = ¬ Shows lower e
IsFreshOrWhy {T} lower fresh e f (Err NotSpare) = Shows lower e × ShowsKept lower e
IsFreshOrWhy {T} lower fresh e f (Err AlreadyThere) = Shows lower e × ¬ ShowsKept lower e × Shows fresh f
IsFreshOrWhy {T} lower fresh e f (Err _) = ⊥

-- v is one of the apexes, of which each may be none
abbrev pub IsOneOf : (near far : Option ℕ) → ℕ → Type 0
IsOneOf near far v = (near ≡ Some v) ⊎ (far ≡ Some v)

-- both ends of f are among the apexes, or which is the least that isn't
abbrev pub AreApexesOrWhy : {T : Type 0} → (near far : Option ℕ) → Pair → Result T Why → Type 0
AreApexesOrWhy {T} near far f (Ok _) = IsOneOf near far f.lo × IsOneOf near far f.hi
AreApexesOrWhy {T} near far f (Err (NotApex v)) =
    ((v ≡ f.lo) × ¬ IsOneOf near far f.lo) ⊎ ((v ≡ f.hi) × IsOneOf near far f.lo × ¬ IsOneOf near far f.hi)
AreApexesOrWhy {T} near far f (Err _) = ⊥

-- both ends of e are on their own sides of the line from k to l, or which is the least that isn't
abbrev pub AreSidesOrWhy : {T : Type 0} → List Point → Pair → (k l : ℕ) → Result T Why → Type 0
AreSidesOrWhy {T} S e k l (Ok _) = IsLowRight S e k l × IsHighLeft S e k l
AreSidesOrWhy {T} S e k l (Err (Bent v)) = IsFirstBent S e k l v
AreSidesOrWhy {T} S e k l (Err _) = ⊥
