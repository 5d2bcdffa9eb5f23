use Rattle.std.proofs.Common.{rules, subst, sym, ◌≡◌, true, ℕ, refl}
use Rattle.std.proofs.lemmas.Bool.{false≢true}
use Rattle.journal_defs.specs.declared.edit.Edit.{Edit}
use Rattle.journal_defs.specs.Edits.{touches}
use Rattle.plan_defs.specs.Plans.{star_in}
use Rattle.planner.specs.Region.{sights}
use Rattle.planner.specs.Steps.{CanTry, HasMade, IsReady}
use Rattle.planner.proofs.Made.{can_next, back_ready, tried_back}
use Rattle.planner.proofs.Tried.{can_first, looked_first, ready_first, tried_same, first_unfit, rest_fit}
use Rattle.planner.proofs.moves.+try_edits.Goals as goal

pub does_fit-requires-clause-looked : goal.does_fit-requires-clause-looked
does_fit-requires-clause-looked t c =
    looked_first c.args.points.now c.args.region.now c.in-Some.first.now c.in-Some.rest.now (can_first c.args.points.now c.args.region.now c.in-Some.first.now c.in-Some.rest.now c.args.edits.now c.in-Some.ensures.cases.0 c.requires)

pub returns-then-not-does_fit-clause-fit : goal.returns-then-not-does_fit-clause-fit
returns-then-not-does_fit-clause-fit t c =
    first_unfit c.args.points.now (star_in c.args.points.now (sights c.args.region.now)) c.in-Some.first.now c.in-Some.rest.now c.args.edits.now c.in-Some.ensures.cases.0 (λ f. false≢true (c.if-not-does_fit.ensures.1 f))

pub returns-then-not-does_fit-clause-back : goal.returns-then-not-does_fit-clause-back
returns-then-not-does_fit-clause-back t c = tried_same c.args.points.now c.args.region.now c.requires.held

pub returns-then-is_empty-clause-back : goal.returns-then-is_empty-clause-back
returns-then-is_empty-clause-back t c = tried_same c.args.points.now c.args.region.now c.requires.held

pub make-requires-clause-ready : goal.make-requires-clause-ready
make-requires-clause-ready t c =
    ready_first c.args.points.now c.args.region.now c.in-Some.first.now c.in-Some.rest.now (can_first c.args.points.now c.args.region.now c.in-Some.first.now c.in-Some.rest.now c.args.edits.now c.in-Some.ensures.cases.0 c.requires) (c.if-not-does_fit.ensures.0 refl)

pub try_edits-fit-requires : goal.try_edits-fit-requires
try_edits-fit-requires t c =
    let next : CanTry c.args.points.now c.make.new.region c.in-Some.rest.now =
    can_next c.args.points.now c.in-Some.first.now c.in-Some.rest.now c.args.region.now c.make.new.region
    (can_first c.args.points.now c.args.region.now c.in-Some.first.now c.in-Some.rest.now c.args.edits.now c.in-Some.ensures.cases.0 c.requires) c.make.ensures in
    search rules

pub make-requires-2-clause-ready : goal.make-requires-2-clause-ready
make-requires-2-clause-ready t c =
    subst (λ (x : Edit). (v : ℕ) → touches x v ≡ true → IsReady c.args.points.now x c.try_edits-fit.new.region v) (sym c.inverse.ensures)
    (λ v h. back_ready c.args.points.now c.in-Some.first.now c.in-Some.rest.now c.args.region.now c.make.new.region c.try_edits-fit.new.region v
    (can_first c.args.points.now c.args.region.now c.in-Some.first.now c.in-Some.rest.now c.args.edits.now c.in-Some.ensures.cases.0 c.requires) (c.if-not-does_fit.ensures.0 refl) c.make.ensures c.try_edits-fit.ensures.back h)

pub returns-clause-fit : goal.returns-clause-fit
returns-clause-fit t c =
    let can = can_first c.args.points.now c.args.region.now c.in-Some.first.now c.in-Some.rest.now c.args.edits.now c.in-Some.ensures.cases.0 c.requires in
    rest_fit c.args.points.now c.in-Some.first.now c.in-Some.rest.now c.args.edits.now c.args.region.now c.make.new.region c.try_edits-fit.result c.in-Some.ensures.cases.0 can.looked (c.if-not-does_fit.ensures.0 refl) c.make.ensures c.try_edits-fit.ensures.fit

pub returns-clause-back : goal.returns-clause-back
returns-clause-back t c =
    tried_back c.args.points.now c.in-Some.first.now c.in-Some.rest.now c.args.region.now c.make.new.region c.try_edits-fit.new.region c.make-2.new.region c.len-count.ensures.accepted
    (can_first c.args.points.now c.args.region.now c.in-Some.first.now c.in-Some.rest.now c.args.edits.now c.in-Some.ensures.cases.0 c.requires) (c.if-not-does_fit.ensures.0 refl) c.make.ensures c.try_edits-fit.ensures.back
    (subst (λ (x : Edit). HasMade c.args.points.now x c.try_edits-fit.new.region c.make-2.new.region) c.inverse.ensures c.make-2.ensures)
