use Rattle.std.proofs.Common.{[], All, length, vec_len}
use Rattle.table_tests.specs.Work.{IsHolding, IsWriting}
use Rattle.table_tests.proofs.tests.apart.Given as goal

abbrev pub invariant-loop-worker : goal.invariant-loop-worker
invariant-loop-worker l =
    All (IsHolding l.claims []) l.holders.items
    × All (λ w. IsWriting l.chronicle [] w.share w.caller (vec_len w.numbers)) l.writers.items
    × All (λ w. IsHolding l.claims [] w.holder) l.workers.items
    × All (λ w. IsWriting l.chronicle [] w.writer.share w.writer.caller (vec_len w.writer.numbers)) l.workers.items

abbrev pub decreases-loop-worker : goal.decreases-loop-worker
decreases-loop-worker l = length l.workers.items
