use Rattle.std.proofs.Common.{List, subst}
use Rattle.journal_defs.specs.declared.edit.Edit.{Edit}
use Rattle.edit.specs.BadPlans.{IsBadPlan}
use Rattle.board.proofs.Replanned.{never_bad}
use Rattle.board.proofs.refreshing.with_claims.Goals as goal

pub unreachable-requires : goal.unreachable-requires
unreachable-requires c =
    never_bad c.args.plan.edits c.args.plan.claims c.args.claims.now c.in_default.field-0 c.edits.ensures.plan c.requires.vertices
    (subst (λ (es : List Edit). IsBadPlan es c.args.claims.now c.in_default.field-0) c.edits.ensures.edits c.in_default.ensures.plan)
