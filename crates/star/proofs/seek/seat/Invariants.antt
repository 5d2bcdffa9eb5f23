use Rattle.std.proofs.Common.{◌-◌, ◌<◌, ◌≤◌, length, ℕ}
use Rattle.star.specs.Turn.{IsBeforeInTurn}
use Rattle.star.specs.Stars.{entry}
use Rattle.star.proofs.seek.seat.Given as goal

abbrev pub invariant-loop-low : goal.invariant-loop-low
invariant-loop-low l = record {
  order : l.low ≤ l.high;
  within : l.high ≤ length l.list;
  passed : (j : ℕ) → j < l.low → IsBeforeInTurn l.points l.centre (entry l.list j).0 l.q;
  ahead : (j : ℕ) → l.high ≤ j → j < length l.list → ¬ IsBeforeInTurn l.points l.centre (entry l.list j).0 l.q;
}

abbrev pub decreases-loop-low : goal.decreases-loop-low
decreases-loop-low l = l.high - l.low
