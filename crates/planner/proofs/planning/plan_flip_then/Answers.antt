use Rattle.std.proofs.Common.{refl, false}
use Rattle.planner.proofs.Planned.{unlooked, dearer, unfit, answered, as_before}
use Rattle.planner.proofs.Tried.{same_looked}
use Rattle.planner.proofs.planning.plan_flip_then.Goals as goal

pub returns-then-not-has_all_touched-clause-answer : goal.returns-then-not-has_all_touched-clause-answer
returns-then-not-has_all_touched-clause-answer c = unlooked c.args.points.now c.args.costs.now c.args.region.now c.args.edits.now false c.if-not-has_all_touched.ensures refl

pub returns-then-not-has_all_touched-clause-before : goal.returns-then-not-has_all_touched-clause-before
returns-then-not-has_all_touched-clause-before c = as_before c.args.points.now c.args.region.now c.requires.held

pub returns-then-not-is_no_dearer-clause-answer : goal.returns-then-not-is_no_dearer-clause-answer
returns-then-not-is_no_dearer-clause-answer c = dearer c.args.points.now c.args.costs.now c.args.region.now c.args.edits.now false c.if-not-is_no_dearer.ensures refl

pub returns-then-not-is_no_dearer-clause-before : goal.returns-then-not-is_no_dearer-clause-before
returns-then-not-is_no_dearer-clause-before c = as_before c.args.points.now c.args.region.now c.requires.held

pub try_flip_all-requires-clause-looked : goal.try_flip_all-requires-clause-looked
try_flip_all-requires-clause-looked c = c.if-not-has_all_touched.ensures.0 refl

pub plan_of-requires-clause-looked : goal.plan_of-requires-clause-looked
plan_of-requires-clause-looked c = same_looked c.args.region.now c.try_flip_all.new.region c.args.edits.now c.try_flip_all.ensures.before.told (c.if-not-has_all_touched.ensures.0 refl)

pub returns-then-fit-clause-answer : goal.returns-then-fit-clause-answer
returns-then-fit-clause-answer c =
    answered c.args.points.now c.args.costs.now c.args.region.now c.try_flip_all.new.region c.args.edits.now c.plan_of.result c.try_flip_all.ensures.before.told (c.if-not-has_all_touched.ensures.0 refl) (c.if-not-is_no_dearer.ensures.0 refl)
    (c.in_ok-fit.ensures.fit.0 c.if-fit.true) c.plan_of.ensures

pub returns-else-fit-clause-answer : goal.returns-else-fit-clause-answer
returns-else-fit-clause-answer c = unfit c.args.points.now c.args.costs.now c.args.region.now c.args.edits.now c.in_ok-fit.fit c.in_ok-fit.ensures.fit c.if-fit.false

pub returns-then-are_blocked-clause-answer : goal.returns-then-are_blocked-clause-answer
returns-then-are_blocked-clause-answer c = λ fit. c.if-are_blocked.ensures refl fit.fit

pub returns-then-are_blocked-clause-before : goal.returns-then-are_blocked-clause-before
returns-then-are_blocked-clause-before c = as_before c.args.points.now c.args.region.now c.requires.held
