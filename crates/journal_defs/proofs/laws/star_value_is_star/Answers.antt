use Rattle.journal_defs.proofs.laws.Turned.{value_is_star, star_is_value}
use Rattle.journal_defs.proofs.laws.star_value_is_star.Goals as goal

pub returns : goal.returns
returns c = record {
  star = λ s v so hv. value_is_star c.args.points.now s v c.len-count.ensures.accepted so hv;
  list = λ s v a so hv star. star_is_value c.args.points.now s v a c.len-count.ensures.accepted so hv star;
}
