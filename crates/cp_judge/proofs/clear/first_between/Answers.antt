use Rattle.std.proofs.Common.{rules}
use Rattle.plane.specs.Geometry.{point, LiesBetween}
use Rattle.cp_judge.proofs.Placed.{none_of_strips}
use Rattle.cp_judge.proofs.clear.first_between.Goals as goal

pub returns-else-may_have_between : goal.returns-else-may_have_between
returns-else-may_have_between c = λ k l on.
    let here : LiesBetween (point c.args.points.now k) c.at.result c.at-2.result = rw (c.at.ensures.point, c.at-2.ensures.point, c.lo.ensures, c.hi.ensures) on in
    none_of_strips c.args.points.now c.args.places.now c.args.bounds.now c.args.strips.now c.at.result c.at-2.result c.requires.blocks (c.may_have_between.ensures (search rules)) k l here
