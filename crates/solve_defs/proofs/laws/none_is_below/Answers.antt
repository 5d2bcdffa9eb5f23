use Rattle.plane.specs.Accepted.{AreAccepted}
use Rattle.solve_defs.proofs.laws.Histories.{none_below}
use Rattle.solve_defs.proofs.laws.none_is_below.Goals as goal

pub returns : goal.returns
returns c = λ D E start J K C v L solved bound convex distinct.
    none_below c.args.points.now D E start J K C v L (let a : AreAccepted c.args.points.now = c.len-count.ensures.accepted in a.count.0) solved bound convex distinct
