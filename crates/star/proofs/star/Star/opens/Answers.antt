use Rattle.std.proofs.Common.{subst, true}
use Rattle.star.specs.Gaps.{MeetsWithout}
use Rattle.star.proofs.laws.Marks.{mark_at}
use Rattle.star.proofs.star.Star.opens.Goals as goal

pub opens_at-requires : goal.opens_at-requires
opens_at-requires c = (c.position-k.ensures.place.0, mark_at c.args.self.now c.args.q c.position-k.result true c.position-k.ensures.order c.requires.kept c.position-k.ensures.place)

pub returns-clause-met : goal.returns-clause-met
returns-clause-met c = λ f. subst (λ x. MeetsWithout c.args.self.now x) c.position-k.ensures.place.1 (c.opens_at.ensures.met f)
