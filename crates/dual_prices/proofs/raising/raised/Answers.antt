use Rattle.std.proofs.Common.{sym, ◌∙◌, subst}
use Rattle.price_defs.specs.Limits.{AreLight}
use Rattle.dual_prices.proofs.laws.InPlace.{valid_light, raising_more, raised_length}
use Rattle.dual_prices.proofs.raising.raised.Goals as goal

pub make-requires-clause-light : goal.make-requires-clause-light
make-requires-clause-light c =
    subst AreLight (sym c.into_vec.ensures)
    (valid_light c.args.points.now c.args.costs.now c.args.certificate.q c.args.certificate.rows c.len-count.ensures.accepted c.requires.valid c.requires.takers c.requires.divisor c.list-listed.ensures.costs.within)

pub loop-k-preserved : goal.loop-k-preserved
loop-k-preserved c = (
  raising_more c.args.points.now c.args.costs.now c.args.certificate.q _ c.loop-k.kept.rows c.raise_next.new.kept.rows c.loop-k.k c.requires.divisor c.list-listed.ensures.costs.within c.raise_next.ensures.rows c.loop-k.invariant.0,
  c.raise_next.ensures.points ∙ c.loop-k.invariant.1,
  raised_length c.args.points.now c.args.costs.now c.args.certificate.q c.loop-k.kept.rows c.loop-k.k c.raise_next.new.kept.rows c.raise_next.ensures.rows ∙ c.loop-k.invariant.2,
)
