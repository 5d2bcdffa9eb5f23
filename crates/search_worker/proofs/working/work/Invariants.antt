use Rattle.std.proofs.Common.{◌≡◌}
use Rattle.seats.specs.Seats.{ground_of}
use Rattle.board.specs.Passes.{IsPass}
use Rattle.search_worker.proofs.Searched.{IsSearching}
use Rattle.search_worker.proofs.working.work.Given as goal

abbrev pub invariant-loop-k : goal.invariant-loop-k
invariant-loop-k g l = record {
  of : l.pass.of ≡ l.board;
  valid : IsPass l.pass;
  searching : IsSearching (ground_of l.board) l.costs l.rounds l.seed l.k l.fn.pass l.pass l.words l.log;
}
