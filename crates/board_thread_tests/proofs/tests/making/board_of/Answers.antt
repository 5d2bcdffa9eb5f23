use Rattle.std.proofs.Common.{◌≡◌, sym, subst}
use Rattle.std.specs.List.{AllByRecursion}
use Rattle.seats.specs.Seats.{SeatSeen}
use Rattle.board_thread_tests.proofs.Passes.{first_of}
use Rattle.board_thread_tests.proofs.tests.making.board_of.Goals as goal

pub returns-in-Ok : goal.returns-in-Ok
returns-in-Ok c =
    record { passes = subst (AllByRecursion (λ (p : SeatSeen). p.of ≡ c.in-Ok.made.0)) (sym c.in-Ok.ensures.passes) (first_of c.in-Ok.made.0 c.args.core.journal 1 c.args.callers) }
