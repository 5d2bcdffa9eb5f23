use Rattle.std.proofs.Common.{ℕ, ◌+◌, take, sym, subst, Option}
use Rattle.journal_defs.specs.Edits.{touches}
use Rattle.edit.specs.Plans.{IsLeastUnclaimed, are_touching}
use Rattle.edit.proofs.Unclaimed.{lesser_unclaimed, more_touching}
use Rattle.edit.proofs.covering.least_unclaimed.Goals as goal

pub loop-e-preserved : goal.loop-e-preserved
loop-e-preserved c =
    subst (λ (o : Option ℕ). IsLeastUnclaimed (are_touching (take (c.loop-e.e-index + 1) c.args.edits.now)) c.args.claims.now o) (sym c.lesser-least.ensures)
    (lesser_unclaimed (are_touching (take c.loop-e.e-index c.args.edits.now)) (touches c.e-item.result) (are_touching (take (c.loop-e.e-index + 1) c.args.edits.now)) c.args.claims.now c.loop-e.least c.unclaimed_of.result
    (more_touching c.args.edits.now c.loop-e.e-index c.e-item.result c.loop-e-test.true c.e-item.is) c.loop-e.invariant c.unclaimed_of.ensures)
