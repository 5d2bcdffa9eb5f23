-- The first edit that isn't legal in its turn, and the first claim whose stamp isn't right.
use Rattle.std.specs.Prelude.{◌≡◌, ℕ, ◌<◌, List, [], ◌∷◌, map, take, length, slice_index_or}
use Rattle.std.specs.List.{AllByRecursion}
use Rattle.plane.specs.declared.coordinates.Point.{Point}
use Rattle.journal_defs.specs.declared.edit.Edit.{Edit}
use Rattle.journal_defs.specs.declared.edit.Why.{Why}
use Rattle.journal_defs.specs.declared.edit.Claim.{Claim}
use Rattle.journal_defs.specs.declared.commit.Commit.{Commit}
use Rattle.journal_defs.specs.Edits.{State, IsLegal}
use Rattle.journal_defs.specs.Journal.{after_all, AreLegal, last}
use Rattle.journal_defs.specs.Neighbours.{IsWhy}
use Rattle.hands.specs.declared.refusal.Refusal.{Refusal}
use Rattle.hands.specs.declared.refusal.Refusal.TheVariants.{Busy, Stale, Ahead, NoMemory, Illegal, Full}
use Rattle.hands.specs.Hands.{Hand, AreRight, hands_after_all}

-- the vertices of the claims
abbrev pub claimed : List Claim → List ℕ
claimed claims = map (λ (c : Claim). c.vertex) claims

-- each is less than all later ones
abbrev pub AreRising : List ℕ → Type 0
AreRising [] = Unit {0}
AreRising (x ∷ xs) = AllByRecursion (λ (y : ℕ). x < y) xs × AreRising xs

-- the edit at k is the first that isn't legal in its turn, and this is why
pub record IsIllegalAt (S : List Point) (s : State) (edits : List Edit) (k : ℕ) (why : Why) : Type 0 where
  pub within : k < length edits
  pub before : AreLegal S s (take k edits)
  pub edit : Edit
  pub at : slice_index_or edits k edit ≡ edit
  pub cause : IsWhy S (after_all (take k edits) s) edit why
  pub illegal : ¬ IsLegal S (after_all (take k edits) s) edit

-- the edits were made in hands that were right
pub record IsMade (S : List Point) (s : State) (edits : List Edit) (hands : List Hand) : Type 0 where
  pub first : List Hand
  pub right : AreRight S s first
  pub made : hands ≡ hands_after_all S edits first

-- the stamp of a claim is the number of the last commit that touches its vertex
abbrev pub IsFresh : List Commit → Claim → Type 0
IsFresh J c = c.stamp ≡ last J c.vertex

-- the claim at k is the first whose stamp isn't so
pub record IsFirstStale (J : List Commit) (claims : List Claim) (k : ℕ) (c : Claim) : Type 0 where
  pub within : k < length claims
  pub at : slice_index_or claims k c ≡ c
  pub before : AllByRecursion (IsFresh J) (take k claims)
  pub stale : ¬ IsFresh J c

-- the refusal of the first claim that isn't fresh
abbrev pub IsStaleAnswer : List Commit → List Claim → Refusal → Type 0
IsStaleAnswer J claims (Stale v n) = (k : ℕ) × (c : Claim) × IsFirstStale J claims k c × (c.vertex ≡ v) × (n ≡ last J v) × (c.stamp < n)
IsStaleAnswer J claims (Ahead v n) = (k : ℕ) × (c : Claim) × IsFirstStale J claims k c × (c.vertex ≡ v) × (n ≡ last J v) × (n < c.stamp)
IsStaleAnswer J claims (Busy place holder) = ⊥
IsStaleAnswer J claims NoMemory = ⊥
IsStaleAnswer J claims (Illegal k why) = ⊥
IsStaleAnswer J claims Full = ⊥
