use Rattle.std.proofs.Common.{Bool}
use Rattle.round_defs.specs.Handed.{refreshed, IsTried}
use Rattle.seats.specs.Seats.{ground_of}
use Rattle.search_worker.specs.Handing.{IsAlone}
use Rattle.search_worker.proofs.Tried.{on_ok, again_tried}
use Rattle.search_worker.proofs.handing.hand_again.Goals as goal

pub returns-in-Ok-clause-alone : goal.returns-in-Ok-clause-alone
returns-in-Ok-clause-alone g c =
    let r = ground_of c.args.board.now in let p = c.args.plan in let f = c.in-Ok.fresh in
    let old = c.args.pass.now in let mid = c.refresh.new.pass in let new = c.hand_last.new.pass in
    on_ok c.hand_last.result (λ (b : Bool). IsAlone r mid → IsTried r.points r.start mid.seen f new.seen)
    (λ (b : Bool). IsAlone r old → IsTried r.points r.start old.seen (refreshed old.seen p) new.seen)
    (λ b tried alone. again_tried r old mid new p f c.in-Ok.ensures.fresh alone tried) c.hand_last.ensures.alone
