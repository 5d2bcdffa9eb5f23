use Rattle.std.specs.Prelude.{ℕ, ◌+◌, ◌<◌}
use Rattle.std.proofs.Common.{arith}

pub rises : (v j : ℕ) → v < v + 1 + j
rises v j = omega arith
