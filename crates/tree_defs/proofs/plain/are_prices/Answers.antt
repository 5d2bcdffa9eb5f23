use Rattle.std.proofs.Common.{sym, ◌∙◌, refl, rules, arith}
use Rattle.std.proofs.lemmas.Bool.{false≢true}
use Rattle.tree_defs.specs.Leaves.{sets}
use Rattle.tree_defs.proofs.laws.Overs.{over_row, over_refuses, prices_seen}
use Rattle.tree_defs.proofs.plain.are_prices.Goals as goal

pub returns-then-has_over_from : goal.returns-then-has_over_from
returns-then-has_over_from c = (
  λ t. absurd (false≢true t),
  λ p. absurd (over_refuses c.args.points.now c.args.costs.now (sets c.args.taken.now c.args.barred.now) c.args.c.now.q c.loop-i.i c.args.c.now.rows c.as_slice-rows.result.now
      c.as_slice-rows.ensures (c.has_over_from.ensures.0 c.if-has_over_from.true) p),
)

pub loop-i-preserved : goal.loop-i-preserved
loop-i-preserved c =
    over_row c.args.points.now c.args.costs.now (sets c.args.taken.now c.args.barred.now) c.args.c.now.q c.as_slice-rows.result.now c.loop-i.i
    (λ h. false≢true (sym c.if-has_over_from.false ∙ c.has_over_from.ensures.1 h)) c.loop-i.invariant

pub returns : goal.returns
returns c = (
  λ t. prices_seen c.args.points.now c.args.costs.now (sets c.args.taken.now c.args.barred.now) c.args.c.now.q c.loop-i.i c.args.c.now.rows c.as_slice-rows.result.now
      c.as_slice-rows.ensures (omega (arith, c.if-c-eq0.false)) (omega (arith, c.if-c-gt-MOST_DIVISOR.false)) (search rules)
      (c.are_fit.ensures.0 c.if-not-are_fit.false) (search rules) c.loop-i.invariant,
  λ h. refl,
)
