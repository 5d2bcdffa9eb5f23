use Rattle.std.proofs.Common.{refl, subst, take}
use Rattle.journal_defs.specs.declared.edit.Edit.{Edit}
use Rattle.plan_defs.specs.Plans.{star_in}
use Rattle.planner.specs.Region.{sights}
use Rattle.planner.specs.Blocking.{Blocks}
use Rattle.planner.proofs.Blocked.{blocked}
use Rattle.planner.proofs.blocking.are_blocked.Goals as goal

pub returns-then-blocks : goal.returns-then-blocks
returns-then-blocks c =
    let at = star_in c.args.points.now (sights c.args.region.now) in
    λ t. blocked c.args.points.now at c.args.edits.now c.loop-k.k c.index-edits-k.result c.loop-k-test.true
    (subst (λ (x : Edit). Blocks c.args.points.now at (take c.loop-k.k c.args.edits.now) x) c.index-edits-k.is (c.if-blocks.ensures refl))
