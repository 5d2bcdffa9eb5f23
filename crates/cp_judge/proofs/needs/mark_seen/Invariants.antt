use Rattle.std.proofs.Common.{◌≡◌, ◌≤◌, ℕ}
use Rattle.cp_judge.specs.Searching.{mark, AddsMarks, IsInNeedOfAnother}
use Rattle.cp_judge.proofs.needs.mark_seen.Given as goal

abbrev pub invariant-loop-q : goal.invariant-loop-q
invariant-loop-q l = record {
  added : AddsMarks (λ q. IsInNeedOfAnother l.points l.p q l.r) l.q l.initial.marks l.marks;
  kept : (k : ℕ) → l.q ≤ k → mark l.marks k ≡ mark l.initial.marks k;
}
