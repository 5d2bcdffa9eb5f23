use Rattle.std.specs.Prelude.{◌≡◌}
use Rattle.std.specs.List.{All, AllByRecursion}
use Rattle.seats.specs.Seats.{SeatSeen}
use Rattle.board_thread_tests.specs.declared.tests.many.Worker.{Worker}
use Rattle.board_thread_tests.proofs.tests.many.workers_of.Given as goal

abbrev pub invariant-loop-seed : goal.invariant-loop-seed
invariant-loop-seed l = All (λ (w : Worker). w.pass.of ≡ l.board) l.workers.items × AllByRecursion (λ (p : SeatSeen). p.of ≡ l.board) l.passes.items
