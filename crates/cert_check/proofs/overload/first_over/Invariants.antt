use Rattle.std.proofs.Common.{◌≡◌, ℕ, ◌*◌, ◌<◌, length}
use Rattle.price_defs.specs.Faults.{IsOver}
use Rattle.cert_check.proofs.overload.first_over.Given as goal

abbrev pub invariant-loop-k : goal.invariant-loop-k
invariant-loop-k l = (l.clear ≡ l.points) × ((i j : ℕ) → i < l.k * 32 → i < j → j < length l.points → ¬ IsOver l.points l.costs l.q l.rows i j)
