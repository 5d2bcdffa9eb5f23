use Rattle.std.proofs.Common.{sym, ◌∙◌, refl, subst, rules}
use Rattle.std.proofs.lemmas.Bool.{false≢true}
use Rattle.number_laws.proofs.Loops.{more_items}
use Rattle.tree_defs.specs.Plain.{IsFit}
use Rattle.tree_defs.proofs.laws.Overs.{all_of_items}
use Rattle.tree_defs.proofs.plain.are_fit.Goals as goal

pub loop-row-preserved : goal.loop-row-preserved
loop-row-preserved c =
    more_items (IsFit c.args.points.now) c.args.rows.now c.loop-row.row-index c.row-item.result c.row-item.is c.loop-row-test.true
    (c.is_fit.ensures.0 c.if-not-is_fit.false) c.loop-row.invariant

pub returns-then-not-is_fit : goal.returns-then-not-is_fit
returns-then-not-is_fit c = (
  λ t. absurd (false≢true t),
  λ h. absurd (false≢true (sym c.if-not-is_fit.true ∙ c.is_fit.ensures.1
      (subst (IsFit c.args.points.now) (sym c.row-item.is) (h c.loop-row.row-index c.row-item.result c.loop-row-test.true)))),
)

pub returns : goal.returns
returns c = (λ t. all_of_items (IsFit c.args.points.now) c.args.rows.now (λ k y l e. c.loop-row.invariant k y (search rules) e), λ h. refl)
