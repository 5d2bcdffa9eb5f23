use Rattle.std.proofs.Common.{ℕ, sym, ◌∙◌}
use Rattle.std.proofs.lemmas.Bool.{false≢true}
use borrow.Author.Count.{below_more}
use Rattle.plane.specs.Geometry.{IsBetween}
use Rattle.price_defs.proofs.plain.is_alone_with.Goals as goal

pub loop-r-preserved : goal.loop-r-preserved
loop-r-preserved c =
    below_more (λ (r : ℕ). ¬ IsBetween c.args.points.now c.args.p c.args.q r) c.loop-r.r c.loop-r.invariant
    (λ h. false≢true (sym c.if-between.false ∙ c.between.ensures.1 h))
