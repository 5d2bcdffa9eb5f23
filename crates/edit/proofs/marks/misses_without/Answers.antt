use Rattle.std.proofs.Common.{ℕ, subst}
use Rattle.star.specs.Gaps.{MeetsWithout}
use Rattle.edit.proofs.Shown.{missed_without, without_missed, met_without}
use Rattle.edit.proofs.marks.misses_without.Goals as goal

pub returns-in-None-clause-missed : goal.returns-in-None-clause-missed
returns-in-None-clause-missed c = (
  λ t. missed_without c.args.star.now c.args.q c.in-None.ensures (c.misses_some.ensures.missed.0 t),
  λ m. c.misses_some.ensures.missed.1 (without_missed c.args.star.now c.args.q c.in-None.ensures m),
)

pub returns-in-None-clause-met : goal.returns-in-None-clause-met
returns-in-None-clause-met c = λ f. met_without c.args.star.now c.args.q c.in-None.ensures (c.misses_some.ensures.met f)

pub returns-in-Some-clause-met : goal.returns-in-Some-clause-met
returns-in-Some-clause-met c = λ f. subst (λ (q : ℕ). MeetsWithout c.args.star.now q) c.in-Some.ensures.1 (c.opens_at.ensures.met f)
