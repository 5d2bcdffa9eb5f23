-- Plans: edits and claims on the vertices that they touch.
use Rattle.std.specs.Prelude.{◌≡◌, ℕ, ◌-◌, ◌<◌, ◌≤◌, Bool, true, false, nat_eq, List, length, slice_index_or, Option, Some, None}
use Rattle.std.specs.List.{list_any, AllAdjacentBelow}
use Rattle.journal_defs.specs.declared.edit.Edit.{Edit}
use Rattle.journal_defs.specs.declared.edit.Claim.{Claim}
use Rattle.journal_defs.specs.Edits.{touches}

-- what contracts see of a plan
pub record Planned : Type 0 where
  pub edits : List Edit
  pub claims : List Claim

-- one of the edits touches v
abbrev pub are_touching : List Edit → ℕ → Bool
are_touching edits v = list_any (λ e. touches e v) edits

-- one of the claims is on v
abbrev pub is_claimed : List Claim → ℕ → Bool
is_claimed claims v = list_any (λ (c : Claim). nat_eq c.vertex v) claims

-- at most 8 edits and 16 claims
abbrev pub HasPlanSize : List Edit → List Claim → Type 0
HasPlanSize edits claims = (length edits ≤ 8) × (length claims ≤ 16)

-- the vertices of the claims at the positions below n ascend
abbrev pub RisesBelow : List Claim → ℕ → Type 0
RisesBelow claims n = AllAdjacentBelow (λ (a b : Claim). a.vertex < b.vertex) claims n

-- k is the least position whose vertex isn't greater than the one before
pub record IsFirstFall (claims : List Claim) (k : ℕ) : Type 0 where
  pub some : 0 < k
  pub within : k < length claims
  pub falls : (d : Claim) → (slice_index_or claims k d).vertex ≤ (slice_index_or claims (k - 1) d).vertex
  pub least : RisesBelow claims k

-- the least vertex that passes the test and has no claim, or none
abbrev pub IsLeastUnclaimed : (ℕ → Bool) → List Claim → Option ℕ → Type 0
IsLeastUnclaimed touched claims None = (v : ℕ) → touched v ≡ true → is_claimed claims v ≡ true
IsLeastUnclaimed touched claims (Some v) =
    (touched v ≡ true) × (is_claimed claims v ≡ false)
    × ((w : ℕ) → w < v → touched w ≡ true → is_claimed claims w ≡ true)

-- 1 to 8 edits, and at most 16 claims, whose vertices ascend and are all that the edits touch, and perhaps more
pub record IsPlan (edits : List Edit) (claims : List Claim) : Type 0 where
  pub some : 0 < length edits
  pub size : HasPlanSize edits claims
  pub rising : RisesBelow claims (length claims)
  pub covered : (v : ℕ) → are_touching edits v ≡ true → is_claimed claims v ≡ true
