use Rattle.std.specs.Prelude.{◌≡◌}
use Rattle.board_thread_tests.proofs.tests.many.work.Given as goal

abbrev pub invariant-loop : goal.invariant-loop
invariant-loop l = l.worker.pass.of ≡ l.board
