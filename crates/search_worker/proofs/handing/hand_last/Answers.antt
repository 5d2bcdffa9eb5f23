use Rattle.seats.specs.Seats.{ground_of}
use Rattle.search_worker.proofs.Tried.{answered_tried}
use Rattle.search_worker.proofs.handing.hand_last.Goals as goal

pub returns-clause-alone : goal.returns-clause-alone
returns-clause-alone g c = λ alone.
    answered_tried (ground_of c.args.board.now) c.args.plan c.args.pass.now c.hand_once.new.pass c.in_ok-tried.tried (c.in_ok-tried.ensures.tried.alone alone)
