-- For private clauses.
-- The lesser of two numbers of which each may be none.
use Rattle.std.specs.Prelude.{ℕ, if◌then◌else◌, nat_lt, Option, Some, None}

abbrev pub lesser : (a b : Option ℕ) → Option ℕ
lesser None b = b
lesser (Some m) None = Some m
lesser (Some m) (Some n) = if nat_lt n m then Some n else Some m
