use Rattle.std.proofs.Common.{◌∙◌, Option, subst}
use Rattle.edit.specs.declared.look.Look.{Look}
use Rattle.seats.specs.Seats.{ground_of}
use Rattle.search_worker.specs.Looking.{IsOneLook}
use Rattle.search_worker.proofs.Looked.{gained_at}
use Rattle.search_worker.proofs.looking.look_around.Goals as goal

pub returns-in-Some-clause-gained : goal.returns-in-Some-clause-gained
returns-in-Some-clause-gained c =
    let b = c.args.board.now in let s = c.look_once.new.pass in let looked = c.in_ok-look.ensures.looked in
    let P : Option Look → Type 0 = λ o. IsOneLook (ground_of b) s c.args.v o in
    gained_at b s c.args.pass.now c.args.v c.in-Some.look c.args.region.now c.add.new.region (c.in_ok-look.ensures.further.of ∙ c.requires.of) c.in_ok-look.ensures.valid looked.still
    c.requires.vertex (subst P c.in-Some.is looked.shown) c.requires.points c.add.ensures.added c.add.ensures.either
