use Rattle.std.proofs.Common.{◌≡◌, ◌∙◌, ◌%◌, ℕ, List, length, arith, sym, ap, subst}
use Rattle.plane.specs.declared.coordinates.Point.{Point}
use Rattle.plan_defs.specs.Plans.{Sight, look_at}
use Rattle.planner.specs.Region.{sights, AreFor, DoAgree}
use Rattle.round_plans.specs.Found.{AreRoundPlans}
use Rattle.seats.specs.Seats.{ground_of}
use Rattle.search_worker.specs.declared.log.WorkLog.{WorkLog}
use Rattle.search_worker.specs.Handing.{HaveHanded}
use Rattle.search_worker.specs.Turning.{HasTurnedAt}
use Rattle.search_worker.proofs.Further.{further_on}
use Rattle.search_worker.proofs.Planned.{plans_safe}
use Rattle.search_worker.proofs.Tried.{on_ok}
use Rattle.search_worker.proofs.Turned.{degree_at, none_at, round_on}
use Rattle.search_worker.proofs.round.round_at.Goals as goal

pub agree-requires : goal.agree-requires
agree-requires g c =
    let P : List Point → Type 0 = λ S. AreFor S c.in_ok-region.region in
    subst P (sym c.points-points.ensures.points) c.in_ok-region.ensures.gathered.points

pub returns-then-not-agree-clause-turned : goal.returns-then-not-agree-clause-turned
returns-then-not-agree-clause-turned g c =
    let b = c.args.board.now in let R = c.in_ok-region.region in
    let P : List Point → Type 0 = λ S. DoAgree S R in
    none_at b c.args.pass.now c.gather.new.pass c.args.costs.now c.args.look R c.args.words.now c.empty.result c.requires.of c.caller-caller.ensures.valid c.requires.vertex
    c.in_ok-region.ensures.gathered (λ agree. absurd (let yes_is = c.agree.ensures.1 (subst P (sym c.points-points.ensures.points) agree) in let no_is = c.if-not-agree.true in cc)) c.empty.ensures

pub nonzero_rem-from : goal.nonzero_rem-from
nonzero_rem-from g c =
    let some = degree_at c.args.board.now c.args.pass.now c.args.look c.requires.of c.caller-caller.ensures.valid c.requires.vertex c.requires.shown in
    let is = c.degree-degree.ensures.degree in omega (arith, some, is)

pub plans-requires-clause-from : goal.plans-requires-clause-from
plans-requires-clause-from g c =
    let some = degree_at c.args.board.now c.args.pass.now c.args.look c.requires.of c.caller-caller.ensures.valid c.requires.vertex c.requires.shown in
    let is = c.degree-degree.ensures.degree in
    let R = sights c.in_ok-region.region in
    let list : (look_at R c.centre-v.result).list ≡ c.args.look.star.list =
    ap (λ (v : ℕ). (look_at R v).list) c.centre-v.ensures.centre ∙ ap (λ (l : Sight). l.list) c.in_ok-region.ensures.gathered.first in
    let long : length (look_at R c.centre-v.result).list ≡ length c.args.look.star.list = ap length list in
    omega (arith, some, is, long)

pub hand_all-requires-clause-safe : goal.hand_all-requires-clause-safe
hand_all-requires-clause-safe g c =
    let b = c.args.board.now in let R = c.in_ok-region.region in let p = c.in_ok-plans.plans in
    let A : List Point → Type 0 = λ S. DoAgree S R in
    let F : List Point → Type 0 = λ S. AreRoundPlans S c.args.costs.now (sights R) c.centre-v.result (c.next_word.result % c.degree-degree.result) p in
    plans_safe (ground_of b) c.args.costs.now R c.centre-v.result (c.next_word.result % c.degree-degree.result) p
    (subst A c.points-points.ensures.points (c.agree.ensures.0 c.if-not-agree.false)) (subst F c.points-points.ensures.points c.in_ok-plans.ensures.plans)

pub returns-clause-turned : goal.returns-clause-turned
returns-clause-turned g c =
    let b = c.args.board.now in let R = c.in_ok-region.region in let p = c.in_ok-plans.plans in let look = c.args.look in let D = c.args.costs.now in
    let from = c.next_word.result % c.degree-degree.result in
    let F : List Point → Type 0 = λ S. AreRoundPlans S D (sights R) c.centre-v.result from p in
    let V : ℕ → Type 0 = λ v. AreRoundPlans b.root.points D (sights R) v from p in
    let plans = subst V c.centre-v.ensures.centre (subst F c.points-points.ensures.points c.in_ok-plans.ensures.plans) in
    let place : from ≡ c.next_word.result % length look.star.list = ap (λ (d : ℕ). c.next_word.result % d) c.degree-degree.ensures.degree in
    on_ok c.hand_all.result (λ (log : WorkLog). HaveHanded (ground_of b) p log c.gather.new.pass c.hand_all.new.pass)
    (λ (log : WorkLog). HasTurnedAt (ground_of b) D look.star.centre c.args.pass.now c.hand_all.new.pass c.args.words.now c.next_word.new.self log)
    (λ log handed. round_on b c.args.pass.now c.gather.new.pass c.hand_all.new.pass D look R p c.args.words.now c.next_word.new.self c.next_word.result from log
    c.requires.of c.caller-caller.ensures.valid c.requires.vertex c.requires.shown c.in_ok-region.ensures.gathered c.next_word.ensures place plans handed)
    c.hand_all.ensures.handed

pub returns-clause-further : goal.returns-clause-further
returns-clause-further g c = further_on c.args.pass.now c.gather.new.pass c.hand_all.new.pass c.in_ok-region.ensures.further c.hand_all.ensures.further
