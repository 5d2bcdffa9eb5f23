use Rattle.std.proofs.Common.{[], vec_len}
use Rattle.table_tests.specs.Work.{IsHolding, IsWriting}
use Rattle.table_tests.proofs.tests.work.Given as goal

abbrev pub invariant-loop-turn : goal.invariant-loop-turn
invariant-loop-turn l =
    IsHolding l.claims [] l.worker.holder × IsWriting l.chronicle [] l.worker.writer.share l.worker.writer.caller (vec_len l.worker.writer.numbers)
