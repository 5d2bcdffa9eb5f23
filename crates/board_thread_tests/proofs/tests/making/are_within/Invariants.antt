use Rattle.std.proofs.Common.{◌<◌, take}
use Rattle.std.specs.List.{All}
use Rattle.journal_defs.specs.declared.edit.Claim.{Claim}
use Rattle.board_thread_tests.proofs.tests.making.are_within.Given as goal

abbrev pub invariant-loop-k : goal.invariant-loop-k
invariant-loop-k l = All (λ (c : Claim). c.vertex < l.count) (take l.k l.claims)
