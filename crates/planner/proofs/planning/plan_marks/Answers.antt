use Rattle.std.proofs.Common.{refl, false}
use Rattle.planner.proofs.Planned.{unlooked, dearer, unfit, answered, as_before}
use Rattle.planner.proofs.Tried.{same_looked}
use Rattle.planner.proofs.planning.plan_marks.Goals as goal

pub returns-then-not-has_all_touched-clause-answer : goal.returns-then-not-has_all_touched-clause-answer
returns-then-not-has_all_touched-clause-answer c = unlooked c.args.points.now c.args.costs.now c.args.region.now c.args.edits.now false c.if-not-has_all_touched.ensures refl

pub returns-then-not-has_all_touched-clause-before : goal.returns-then-not-has_all_touched-clause-before
returns-then-not-has_all_touched-clause-before c = as_before c.args.points.now c.args.region.now c.requires.held

pub returns-then-not-is_no_dearer-clause-answer : goal.returns-then-not-is_no_dearer-clause-answer
returns-then-not-is_no_dearer-clause-answer c = dearer c.args.points.now c.args.costs.now c.args.region.now c.args.edits.now false c.if-not-is_no_dearer.ensures refl

pub returns-then-not-is_no_dearer-clause-before : goal.returns-then-not-is_no_dearer-clause-before
returns-then-not-is_no_dearer-clause-before c = as_before c.args.points.now c.args.region.now c.requires.held

pub try_edits-requires : goal.try_edits-requires
try_edits-requires c = record { held = c.requires.held; each_other = c.requires.agree.marked; looked = c.if-not-has_all_touched.ensures.0 refl; marks = c.requires.marks }

pub returns-then-not-try_edits-clause-answer : goal.returns-then-not-try_edits-clause-answer
returns-then-not-try_edits-clause-answer c = unfit c.args.points.now c.args.costs.now c.args.region.now c.args.edits.now false c.if-not-try_edits.ensures.fit refl

pub returns-then-not-try_edits-clause-before : goal.returns-then-not-try_edits-clause-before
returns-then-not-try_edits-clause-before c = record { told = c.if-not-try_edits.ensures.back.told; points = c.if-not-try_edits.ensures.back.held.points }

pub plan_of-requires-clause-looked : goal.plan_of-requires-clause-looked
plan_of-requires-clause-looked c = same_looked c.args.region.now c.try_edits.new.region c.args.edits.now c.if-not-try_edits.ensures.back.told (c.if-not-has_all_touched.ensures.0 refl)

pub returns-clause-answer : goal.returns-clause-answer
returns-clause-answer c =
    answered c.args.points.now c.args.costs.now c.args.region.now c.try_edits.new.region c.args.edits.now c.plan_of.result c.if-not-try_edits.ensures.back.told (c.if-not-has_all_touched.ensures.0 refl) (c.if-not-is_no_dearer.ensures.0 refl)
    (c.if-not-try_edits.ensures.fit.0 refl) c.plan_of.ensures

pub returns-clause-before : goal.returns-clause-before
returns-clause-before c = record { told = c.if-not-try_edits.ensures.back.told; points = c.if-not-try_edits.ensures.back.held.points }

pub returns-then-are_blocked-clause-answer : goal.returns-then-are_blocked-clause-answer
returns-then-are_blocked-clause-answer c = λ fit. c.if-are_blocked.ensures refl fit.fit

pub returns-then-are_blocked-clause-before : goal.returns-then-are_blocked-clause-before
returns-then-are_blocked-clause-before c = as_before c.args.points.now c.args.region.now c.requires.held
