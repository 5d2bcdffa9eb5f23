use Rattle.std.proofs.Common.{ℕ, Bool, ap}
use Rattle.star.specs.Stars.{entry}
use Rattle.edit.proofs.TestStars.{apart_by}
use Rattle.edit.proofs.tests.round.is_apart.Goals as goal

pub returns-else-ne : goal.returns-else-ne
returns-else-ne c = λ t.
    apart_by c.args.points.now c.args.star.now.points c.centre-c.result c.at.result.0 c.args.q c.args.star.now.centre (entry c.args.star.now.list c.args.k).0
    c.requires.points c.centre-c.ensures.centre (ap (λ (p : ℕ × Bool). p.0) c.at.ensures.entry) (c.between.ensures.0 t)
