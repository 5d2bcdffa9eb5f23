use Rattle.std.proofs.Common.{◌≡◌, ◌<◌, ℕ, ◌⊎◌, IsTrue}
use Rattle.cp_judge.specs.Searching.{mark}
use Rattle.cp_judge.specs.Chains.{stop}
use Rattle.cp_judge.proofs.outline.mark_stops.Given as goal

abbrev pub invariant-loop-k : goal.invariant-loop-k
invariant-loop-k l = (v : ℕ) → IsTrue (mark l.marks v) → IsTrue (mark l.initial.marks v) ⊎ ((i : ℕ) × (i < l.k-index) × (stop l.order l.chain i ≡ v))
