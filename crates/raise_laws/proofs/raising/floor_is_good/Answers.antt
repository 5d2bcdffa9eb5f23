use Rattle.plane.specs.Accepted.{AreAccepted}
use Rattle.raise_laws.proofs.laws.Floored.{floor_valid, floor_covered, floor_value}
use Rattle.raise_laws.proofs.raising.floor_is_good.Goals as goal

pub returns : goal.returns
returns c = λ D h q rows f. (floor_valid c.args.points.now D q rows (let a : AreAccepted c.args.points.now = c.len-count.ensures.accepted in a.count.1) f, floor_covered c.args.points.now D q rows f, floor_value c.args.points.now D h q rows f)
