use Rattle.std.proofs.Common.{sym, ◌∙◌, refl, arith}
use Rattle.std.proofs.lemmas.Bool.{false≢true}
use Rattle.tree_defs.specs.Leaves.{sets}
use Rattle.tree_defs.proofs.laws.Overs.{over_step}
use Rattle.tree_defs.proofs.plain.has_over_from.Goals as goal

pub returns-then-is_over : goal.returns-then-is_over
returns-then-is_over c = (
  λ t. (c.of.result, omega (arith, c.of.ensures.lo), omega (arith, c.of.ensures.hi, c.loop-j-test.true), c.is_over.ensures.0 c.if-is_over.true),
  λ h. refl,
)

pub loop-j-preserved : goal.loop-j-preserved
loop-j-preserved c =
    over_step c.args.points.now c.args.costs.now (sets c.args.taken.now c.args.barred.now) c.args.q c.args.rows.now c.args.i c.loop-j.j c.of.result
    (omega (arith, c.of.ensures.lo)) (omega (arith, c.of.ensures.hi))
    (λ h. false≢true (sym c.if-is_over.false ∙ c.is_over.ensures.1 h)) c.loop-j.invariant
