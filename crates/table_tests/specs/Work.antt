-- For private clauses.
-- What the tests know of a thread's work.
use Rattle.std.specs.Prelude.{◌≡◌, ℕ, ◌≤◌, List, [], ◌∷◌, length}
use Rattle.vertex_claims.specs.Holding.{ClaimsSeen, HolderSeen}
use Rattle.chronicle.specs.History.{ChronicleSeen, ShareSeen}

module _ {T : Type 0} where
  -- four places, and a part of the history for each of them
  pub record IsReady (claims : ClaimsSeen (ChronicleSeen T)) (history : ChronicleSeen T) : Type 0 where
    pub places : claims.places ≡ 4
    pub root : claims.root ≡ history
    pub last : history.last ≡ 3

  -- the fact of a place: the share owns the part of that place and no other
  pub record IsOwning (history : ChronicleSeen T) (place : ℕ) (share : ShareSeen T) : Type 0 where
    pub of : share.of ≡ history
    pub nobody : share.caller ≡ 0
    pub parts : share.parts ≡ place ∷ []

  -- the share is of this caller, owns these parts, and so many of the entries are the caller's
  pub record IsWriting (history : ChronicleSeen T) (owned : List ℕ) (share : ShareSeen T) (number made : ℕ) : Type 0 where
    pub of : share.of ≡ history
    pub caller : share.caller ≡ number
    pub somebody : 1 ≤ number
    pub parts : share.parts ≡ owned
    pub count : length share.mine ≡ made

  -- the holder holds these places
  abbrev pub IsHolding : (claims : ClaimsSeen (ChronicleSeen T)) → (places : List ℕ) → HolderSeen (ChronicleSeen T) → Type 0
  IsHolding claims places holder = (holder.of ≡ claims) × (holder.places ≡ places)
