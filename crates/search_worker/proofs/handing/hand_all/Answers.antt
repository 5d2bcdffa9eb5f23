use Rattle.std.proofs.Common.{[], ◌∷◌}
use Rattle.seats.specs.Seats.{ground_of}
use Rattle.search_worker.specs.declared.log.WorkLog.{WorkLog}
use Rattle.search_worker.specs.Handing.{HasHanded, HaveHanded}
use Rattle.search_worker.proofs.Further.{further_own, further_on}
use Rattle.search_worker.proofs.Counted.{none_yet, some_more, all_handed}
use Rattle.search_worker.proofs.Tried.{on_ok}
use Rattle.search_worker.proofs.handing.hand_all.Goals as goal

pub returns-clause-handed : goal.returns-clause-handed
returns-clause-handed g c =
    let r = ground_of c.args.board.now in let p = c.args.plans in let s = c.args.pass.now in
    let t = c.hand_some.new.pass in let u = c.hand_some-2.new.pass in let v = c.hand_some-3.new.pass in let w = c.hand_some-4.new.pass in let x = c.hand_some-5.new.pass in
    let a = c.in_ok-first.first in let b = c.in_ok-second.second in let d = c.in_ok-third.third in let e = c.in_ok-fourth.fourth in
    let st = c.in_ok-first.ensures.further in
    let su = further_on s t u st c.in_ok-second.ensures.further in
    let sv = further_on s u v su c.in_ok-third.ensures.further in
    let sw = further_on s v w sv c.in_ok-fourth.ensures.further in
    let none = none_yet r c.empty-none.result s c.empty-none.ensures.0 c.empty-none.ensures.1 (further_own s) in
    let one = some_more r [] p.drop c.empty-none.result a s s t none c.in_ok-first.ensures.handed st in
    let two = some_more r (p.drop ∷ []) p.swap a b s t u one c.in_ok-second.ensures.handed su in
    let three = some_more r (p.drop ∷ p.swap ∷ []) p.trade b d s u v two c.in_ok-third.ensures.handed sv in
    let four = some_more r (p.drop ∷ p.swap ∷ p.trade ∷ []) p.flip_swap d e s v w three c.in_ok-fourth.ensures.handed sw in
    on_ok c.hand_some-5.result (λ (log : WorkLog). HasHanded r p.flip e log w x) (λ (log : WorkLog). HaveHanded r p log s x)
    (λ log h. all_handed r p log s x (some_more r (p.drop ∷ p.swap ∷ p.trade ∷ p.flip_swap ∷ []) p.flip e log s w x four h (further_on s w x sw c.hand_some-5.ensures.further)))
    c.hand_some-5.ensures.handed

pub returns-clause-further : goal.returns-clause-further
returns-clause-further g c =
    let s = c.args.pass.now in
    let t = c.hand_some.new.pass in let u = c.hand_some-2.new.pass in let v = c.hand_some-3.new.pass in let w = c.hand_some-4.new.pass in let x = c.hand_some-5.new.pass in
    let su = further_on s t u c.in_ok-first.ensures.further c.in_ok-second.ensures.further in
    let sv = further_on s u v su c.in_ok-third.ensures.further in
    let sw = further_on s v w sv c.in_ok-fourth.ensures.further in
    further_on s w x sw c.hand_some-5.ensures.further
