use Rattle.std.proofs.Common.{sym, ◌∙◌, ap, Some}
use Rattle.edit.specs.declared.look.Look.{Look}
use Rattle.planner.proofs.Looks.{place_star, none_star}
use Rattle.planner.proofs.region.RegionStars.star.Goals as goal

pub returns-in-Some-clause-star : goal.returns-in-Some-clause-star
returns-in-Some-clause-star c =
    sym (place_star c.args.self.now c.args.v c.in-Some.k c.look.result.now c.in-Some.ensures ∙ ap (λ (l : Look). Some l.star) (sym (c.look.ensures c.look.result.now)))

pub returns-in-None-clause-star : goal.returns-in-None-clause-star
returns-in-None-clause-star c = sym (none_star c.args.self.now c.args.v c.in-None.ensures)
