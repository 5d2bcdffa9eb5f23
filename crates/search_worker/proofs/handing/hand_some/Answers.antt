use Rattle.std.proofs.Common.{◌<◌, Option, arith, sym, subst}
use Rattle.edit.specs.Plans.{Planned}
use Rattle.seats.specs.Seats.{ground_of}
use Rattle.search_worker.specs.Handing.{HasHanded}
use Rattle.search_worker.proofs.Counted.{none_handed, past_handed, one_handed}
use Rattle.search_worker.proofs.handing.hand_some.Goals as goal

pub returns-in_default-clause-handed : goal.returns-in_default-clause-handed
returns-in_default-clause-handed g c =
    let r = ground_of c.args.board.now in let s = c.args.pass.now in
    let P : Option Planned → Type 0 = λ o. HasHanded r o c.args.log c.args.log s s in
    subst P (sym c.in_default.is) (none_handed r c.args.log s c.requires.few)

pub returns-then-log-eq-MOST_PLANS-clause-handed : goal.returns-then-log-eq-MOST_PLANS-clause-handed
returns-then-log-eq-MOST_PLANS-clause-handed g c =
    let r = ground_of c.args.board.now in let s = c.args.pass.now in
    let P : Option Planned → Type 0 = λ o. HasHanded r o c.args.log c.args.log s s in
    subst P (sym c.in-Some.is) (past_handed r c.in-Some.plan c.args.log s c.requires.few c.if-log-eq-MOST_PLANS.true)

pub returns-clause-handed : goal.returns-clause-handed
returns-clause-handed g c =
    let r = ground_of c.args.board.now in let old = c.args.pass.now in let new = c.hand_in.new.pass in let log = c.args.log in let next = c.counted.result in
    let few = c.requires.few.tried in let other = c.if-log-eq-MOST_PLANS.false in
    let less : log.tried < 4 = omega (arith, few, other) in
    let P : Option Planned → Type 0 = λ o. HasHanded r o log next old new in
    subst P (sym c.in-Some.is) (one_handed r c.in-Some.plan log next old new c.in_ok-made.made c.requires.few less c.counted.ensures.tried c.counted.ensures.committed c.in_ok-made.ensures.made c.in_ok-made.ensures.alone)
