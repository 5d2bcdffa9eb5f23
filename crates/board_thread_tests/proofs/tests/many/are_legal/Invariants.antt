use Rattle.board_thread_tests.proofs.tests.many.are_legal.Given as goal

abbrev pub invariant-loop-commit : goal.invariant-loop-commit
invariant-loop-commit l = Unit {0}
