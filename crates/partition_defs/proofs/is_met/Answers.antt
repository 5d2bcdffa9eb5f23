use Rattle.std.proofs.Common.{ℕ, sym, ◌∙◌}
use Rattle.std.proofs.lemmas.Bool.{false≢true}
use borrow.Author.Count.{below_more}
use Rattle.plane.specs.Geometry.{IsInNeed}
use Rattle.partition_defs.specs.Partition.{Joins}
use Rattle.partition_defs.proofs.is_met.Goals as goal

pub loop-r-preserved : goal.loop-r-preserved
loop-r-preserved c =
    below_more (λ (r : ℕ). ¬ (Joins c.args.list.now c.args.p r × IsInNeed c.args.points.now c.args.p c.args.q r)) c.loop-r.r c.loop-r.invariant
    (λ h. false≢true (sym c.if-meets.false ∙ c.meets.ensures.1 h))
