use Rattle.std.proofs.Common.{List, sym, subst}
use Rattle.std.specs.Prelude.{IsTrue, ◌↔◌, IfOk}
use Rattle.journal_defs.specs.declared.edit.Edit.{Edit}
use Rattle.journal_defs.specs.Turns.{FitInTurn}
use Rattle.plan_defs.specs.Plans.{star_in}
use Rattle.planner.specs.Region.{sights}
use Rattle.planner.specs.Steps.{AreLooked}
use Rattle.planner.proofs.Planned.{rest_is}
use Rattle.planner.proofs.planning.try_flip_all.Goals as goal

pub try_flip-requires-clause-looked : goal.try_flip-requires-clause-looked
try_flip-requires-clause-looked c = subst (AreLooked c.args.region.now) (rest_is c.args.from c.args.to c.args.edits.now c.in-Some.rest.now _ c.in-Some.ensures.cases.0 c.requires.edits).0 c.requires.looked

pub try_flip-requires-clause-marks : goal.try_flip-requires-clause-marks
try_flip-requires-clause-marks c = (rest_is c.args.from c.args.to c.args.edits.now c.in-Some.rest.now _ c.in-Some.ensures.cases.0 c.requires.edits).1

pub returns-clause-fit : goal.returns-clause-fit
returns-clause-fit c =
    subst (λ (x : List Edit). IfOk c.try_flip.result (λ b. IsTrue b ↔ FitInTurn c.args.points.now (star_in c.args.points.now (sights c.args.region.now)) x))
    (sym (rest_is c.args.from c.args.to c.args.edits.now c.in-Some.rest.now _ c.in-Some.ensures.cases.0 c.requires.edits).0) c.try_flip.ensures.fit
