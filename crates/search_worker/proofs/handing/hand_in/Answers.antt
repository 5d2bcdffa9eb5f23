use Rattle.std.proofs.Common.{subst}
use Rattle.seats.specs.Seats.{ground_of}
use Rattle.search_worker.specs.declared.handing.Tried.{Tried}
use Rattle.search_worker.specs.Handing.{IsAnswered}
use Rattle.search_worker.proofs.Tried.{once_made}
use Rattle.search_worker.proofs.handing.hand_in.Goals as goal

pub returns-in-Made-clause-alone : goal.returns-in-Made-clause-alone
returns-in-Made-clause-alone g c = λ alone.
    let r = ground_of c.args.board.now in let p = c.args.plan in let old = c.args.pass.now in let new = c.hand_once.new.pass in
    let P : Tried → Type 0 = λ t. IsAnswered r p old new t in
    once_made r p old new (subst P c.in-Made.is (c.in_ok-hand_once.ensures.tried.alone alone))
