use Rattle.std.proofs.Common.{◌≡◌, [], All, length, vec_len}
use Rattle.table_tests.specs.Work.{IsOwning, IsWriting}
use Rattle.table_tests.proofs.tests.numbers_of.Given as goal

abbrev pub invariant-loop-writer : goal.invariant-loop-writer
invariant-loop-writer l =
    IsOwning l.chronicle 3 l.last
    × (l.last.seen ≡ l.fn.last.seen)
    × All (λ w. IsWriting l.chronicle [] w.share w.caller (vec_len w.numbers)) l.writers.items

abbrev pub decreases-loop-writer : goal.decreases-loop-writer
decreases-loop-writer l = length l.writers.items
