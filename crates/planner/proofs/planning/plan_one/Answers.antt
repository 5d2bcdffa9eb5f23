use Rattle.std.proofs.Common.{refl, false}
use Rattle.std.proofs.lemmas.Bool.{or_left}
use Rattle.journal_defs.specs.Edits.{touches}
use Rattle.planner.proofs.Planned.{unlooked, one_unfit, one_fit}
use Rattle.planner.proofs.planning.plan_one.Goals as goal

pub returns-then-not-has_all_touched : goal.returns-then-not-has_all_touched
returns-then-not-has_all_touched c = λ D. unlooked c.args.points.now D c.args.region.now _ false c.if-not-has_all_touched.ensures refl

pub does_fit-requires-clause-looked : goal.does_fit-requires-clause-looked
does_fit-requires-clause-looked c = λ v h. c.if-not-has_all_touched.ensures.0 refl v (or_left (touches c.args.edit v) false h)

pub returns-then-not-does_fit : goal.returns-then-not-does_fit
returns-then-not-does_fit c = λ D. one_unfit c.args.points.now D c.args.region.now c.args.edit false c.if-not-does_fit.ensures refl

pub plan_of-requires-clause-looked : goal.plan_of-requires-clause-looked
plan_of-requires-clause-looked c = c.if-not-has_all_touched.ensures.0 refl

pub returns : goal.returns
returns c = λ D. one_fit c.args.points.now D c.args.region.now c.args.edit c.plan_of.result (c.if-not-has_all_touched.ensures.0 refl) (c.requires.free D) (c.if-not-does_fit.ensures.0 refl) c.plan_of.ensures
