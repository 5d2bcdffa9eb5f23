use Rattle.std.proofs.Common.{◌≡◌, ℕ, ◌<◌, ◌≤◌, length}
use Rattle.price_defs.specs.Faults.{IsOver}
use Rattle.cert_check.proofs.overload.first_over_of.Given as goal

abbrev pub invariant-loop-i : goal.invariant-loop-i
invariant-loop-i l = (l.clear ≡ l.points) × ((i j : ℕ) → l.first ≤ i → i < l.i → i < j → j < length l.points → ¬ IsOver l.points l.costs l.q l.sums.rows i j)
