use Rattle.std.proofs.Common.{◌≡◌, ◌≢◌, ◌<◌, ℕ, false}
use Rattle.cp_judge.specs.Searching.{mark}
use Rattle.cp_judge.proofs.needs.first_unmarked.Given as goal

abbrev pub invariant-loop-q : goal.invariant-loop-q
invariant-loop-q l = (q : ℕ) → q < l.q → ¬ ((q ≢ l.p) × (mark l.marks q ≡ false))
