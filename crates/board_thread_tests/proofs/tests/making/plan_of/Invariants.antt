use Rattle.std.proofs.Common.{◌≤◌, length}
use Rattle.board_thread_tests.proofs.tests.making.plan_of.Given as goal

abbrev pub invariant-loop-k : goal.invariant-loop-k
invariant-loop-k l = length l.list.items ≤ l.k
