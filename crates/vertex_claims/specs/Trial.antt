-- For private clauses.
-- What the tests know of a thread's work.
use Rattle.std.specs.Prelude.{◌≡◌, ℕ, ◌<◌, length}
use Rattle.vertex_claims.specs.Holding.{ClaimsSeen, HolderSeen, IsIdle}

-- between two turns the holder holds nothing, and its tries were counted
pub record IsAtWork {R : Type 0} (of : ClaimsSeen R) (h : HolderSeen R) (low high wins misses : ℕ) : Type 0 where
  pub idle : IsIdle of h
  pub apart : low < high
  pub within : high < of.places
  pub won : wins ≡ length h.wins
  pub lost : misses ≡ length h.misses
