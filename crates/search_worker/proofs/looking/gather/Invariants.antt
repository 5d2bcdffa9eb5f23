use Rattle.std.proofs.Common.{◌≡◌}
use Rattle.seats.specs.Seats.{ground_of}
use Rattle.board.specs.Passes.{IsPass}
use Rattle.search_worker.specs.Working.{IsFurther}
use Rattle.search_worker.proofs.Gathered.{IsGathering}
use Rattle.search_worker.proofs.looking.gather.Given as goal

abbrev pub invariant-loop-q : goal.invariant-loop-q
invariant-loop-q l = record {
  of : l.pass.of ≡ l.board;
  further : IsFurther l.fn.pass l.pass;
  valid : IsPass l.pass;
  gathering : IsGathering (ground_of l.board) l.fn.pass l.pass l.fn.look l.q-index l.region;
}
