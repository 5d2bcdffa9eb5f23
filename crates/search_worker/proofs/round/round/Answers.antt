use Rattle.std.proofs.Common.{◌≡◌, ◌∙◌, ◌%◌, ℕ, Option, length, List, ap, subst}
use Rattle.edit.specs.declared.look.Look.{Look}
use Rattle.plane.specs.declared.coordinates.Point.{Point}
use Rattle.seats.specs.Seats.{ground_of}
use Rattle.search_worker.specs.declared.log.WorkLog.{WorkLog}
use Rattle.search_worker.specs.Looking.{IsOneLook}
use Rattle.search_worker.specs.Turning.{HasTurnedAt, HasTurned}
use Rattle.search_worker.proofs.Further.{further_on}
use Rattle.search_worker.proofs.Tried.{on_ok}
use Rattle.search_worker.proofs.Turned.{turned_whole, turned_busy}
use Rattle.search_worker.proofs.round.round.Goals as goal

pub returns-in-Some-clause-turned : goal.returns-in-Some-clause-turned
returns-in-Some-clause-turned g c =
    let b = c.args.board.now in let r = ground_of b in let D = c.args.costs.now in let look = c.in-Some.look in
    let s = c.args.pass.now in let mid = c.look_once.new.pass in let new = c.round_at.new.pass in let looked = c.in_ok-look.ensures.looked in
    let v = c.next_word.result % c.len-count.result in
    let P : Option Look → Type 0 = λ o. IsOneLook r mid v o in
    let shown = subst P c.in-Some.is looked.shown in
    let count : c.len-count.result ≡ length r.points = c.len-count.ensures.count ∙ ap (λ (S : List Point). length S) c.points-points.ensures.points in
    let place : look.star.centre ≡ c.next_word.result % length r.points = shown.star.centre ∙ ap (λ (n : ℕ). c.next_word.result % n) count in
    on_ok c.round_at.result (λ (log : WorkLog). HasTurnedAt r D look.star.centre mid new c.next_word.new.self c.round_at.new.words log)
    (λ (log : WorkLog). HasTurned r D s new c.args.words.now c.round_at.new.words log)
    (λ log at. turned_whole r s mid new D look.star.centre c.next_word.result c.args.words.now c.next_word.new.self c.round_at.new.words log looked.still.mine looked.still.alone c.next_word.ensures place at)
    c.round_at.ensures.turned

pub returns-in-Some-clause-further : goal.returns-in-Some-clause-further
returns-in-Some-clause-further g c = further_on c.args.pass.now c.look_once.new.pass c.round_at.new.pass c.in_ok-look.ensures.further c.round_at.ensures.further

pub returns-in-None-clause-turned : goal.returns-in-None-clause-turned
returns-in-None-clause-turned g c =
    let r = ground_of c.args.board.now in let mid = c.look_once.new.pass in let looked = c.in_ok-look.ensures.looked in
    let P : Option Look → Type 0 = λ o. IsOneLook r mid (c.next_word.result % c.len-count.result) o in
    turned_busy r c.args.pass.now mid c.args.costs.now c.args.words.now c.next_word.new.self c.empty.result looked.still.mine (subst P c.in-None.is looked.shown) c.empty.ensures
