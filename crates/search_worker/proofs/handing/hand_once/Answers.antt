use Rattle.std.proofs.Common.{subst}
use Rattle.edit.specs.Plans.{Planned}
use Rattle.seats.specs.Seats.{ground_of}
use Rattle.search_worker.specs.Handing.{IsOutcome, IsTriedOnce}
use Rattle.search_worker.proofs.Further.{refused_further}
use Rattle.search_worker.proofs.Refused.{refused_once}
use Rattle.search_worker.proofs.Tried.{on_ok}
use Rattle.search_worker.proofs.handing.hand_once.Goals as goal

pub returns-in-Err-clause-tried : goal.returns-in-Err-clause-tried
returns-in-Err-clause-tried g c =
    let r = ground_of c.args.board.now in let p = c.args.plan in let old = c.args.pass.now in let new = c.commit.new.pass in let e = c.in-Err.ensures in
    on_ok c.outcome.result (IsOutcome c.in-Err.back c.in-Err.why) (IsTriedOnce r p old new)
    (λ t h. let P : Planned → Type 0 = λ q. IsOutcome q c.in-Err.why t in
    refused_once r p old new c.in-Err.why t e.alone (subst P e.plan h) e.refused)
    c.outcome.ensures

pub returns-in-Err-clause-further : goal.returns-in-Err-clause-further
returns-in-Err-clause-further g c =
    refused_further (ground_of c.args.board.now) c.args.plan.edits c.args.plan.claims c.args.pass.now c.commit.new.pass c.in-Err.why c.in-Err.ensures.refused
