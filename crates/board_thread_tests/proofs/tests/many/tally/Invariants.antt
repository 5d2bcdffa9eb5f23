use Rattle.std.specs.Prelude.{◌≡◌}
use Rattle.std.specs.List.{All, AllByRecursion}
use Rattle.seats.specs.Seats.{SeatSeen}
use Rattle.board_thread_tests.specs.declared.tests.many.Worker.{Worker}
use Rattle.board_thread_tests.proofs.tests.many.tally.Given as goal

abbrev pub invariant-loop : goal.invariant-loop
invariant-loop l = All (λ (w : Worker). w.pass.of ≡ l.board) l.workers.items × AllByRecursion (λ (p : SeatSeen). p.of ≡ l.board) l.passes.items
