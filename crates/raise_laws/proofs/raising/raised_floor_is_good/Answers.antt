use Rattle.plane.specs.Accepted.{AreAccepted}
use Rattle.price_defs.specs.Loads.{IsValid, value}
use Rattle.raise_laws.proofs.laws.Floored.{floor_valid, floor_covered, floor_value}
use Rattle.raise_laws.proofs.laws.Raises.{raised_valid}
use Rattle.raise_laws.proofs.laws.Tightened.{raised_tight, raised_value}
use Rattle.raise_laws.proofs.raising.raised_floor_is_good.Goals as goal

pub returns : goal.returns
returns c = λ D h q out r.
    let v : IsValid c.args.points.now D q r.0 = floor_valid c.args.points.now D q r.0 (let a : AreAccepted c.args.points.now = c.len-count.ensures.accepted in a.count.1) r.1 in (
      record { valid = raised_valid c.args.points.now D q r.0 out r.2 v; tight = raised_tight c.args.points.now D q r.0 out r.2 v (floor_covered c.args.points.now D q r.0 r.1) },
      (value h q r.0, floor_value c.args.points.now D h q r.0 r.1, raised_value c.args.points.now D h q r.0 out v.divisor r.2),
    )
