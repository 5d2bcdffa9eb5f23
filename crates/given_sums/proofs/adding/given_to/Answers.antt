use Rattle.std.proofs.Common.{◌≡◌, subst}
use Rattle.plane.specs.declared.coordinates.Point.{Point}
use Rattle.given_sums.specs.Sums.{IsAhead}
use Rattle.given_sums.proofs.Given.{half_gives, three_gives}
use Rattle.given_sums.proofs.adding.given_to.Goals as goal

pub returns-in-Half-clause-given : goal.returns-in-Half-clause-given
returns-in-Half-clause-given c =
    half_gives c.args.points.now c.args.row c.args.p _ c.in-Half.q c.in-Half.w c.args.r c.weight_ahead.result c.args.from c.args.aim c.in-Half.is c.requires.stand c.requires.from c.requires.aim c.requires.apart
    (subst (λ (x : Point). IsAhead c.args.from c.args.aim x → c.weight_ahead.result ≡ c.in-Half.w) c.at.ensures.point c.weight_ahead.ensures.ahead)
    (subst (λ (x : Point). ¬ IsAhead c.args.from c.args.aim x → c.weight_ahead.result ≡ 0) c.at.ensures.point c.weight_ahead.ensures.not_ahead)

pub returns-in-Three-clause-given : goal.returns-in-Three-clause-given
returns-in-Three-clause-given c = three_gives c.args.points.now c.args.row c.args.p _ c.in-Three.w c.args.r c.in-Three.is c.requires.stand
