-- For private clauses.
-- One step along the pieces of a text, counting its levels.
use Rattle.std.specs.Prelude.{◌≡◌, ℕ, ◌+◌, ◌<◌, ◌≤◌, List, length, drop, nat_le}
use Rattle.text_defs.specs.Levels.{levels}

-- the first `taken` bytes leave room for a count that rises by `left`
pub record PassesPiece (rest : List ℕ) (room taken left : ℕ) : Type 0 where
  pub some : 0 < taken
  pub bound : taken ≤ length rest
  pub rise : left ≤ room + taken
  pub same : nat_le (levels rest) room ≡ nat_le (levels (drop taken rest)) left
