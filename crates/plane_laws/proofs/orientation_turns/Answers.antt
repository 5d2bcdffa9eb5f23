use Rattle.std.proofs.Common.{sym}
use Rattle.plane.specs.Geometry.{point}
use Rattle.plane.proofs.laws.Area.{area_cycle, area_back}
use Rattle.plane_laws.proofs.orientation_turns.Goals as goal

pub returns-clause-cycle : goal.returns-clause-cycle
returns-clause-cycle c = sym (area_cycle (point c.args.points.now c.args.p) (point c.args.points.now c.args.q) (point c.args.points.now c.args.r))

pub returns-clause-swap : goal.returns-clause-swap
returns-clause-swap c = area_back (point c.args.points.now c.args.q) (point c.args.points.now c.args.p) (point c.args.points.now c.args.r)
