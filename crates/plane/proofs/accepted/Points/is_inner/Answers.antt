use Rattle.std.proofs.Common.{rules}
use Rattle.plane.proofs.Outermost.{inner_by_last}
use Rattle.plane.proofs.accepted.Points.is_inner.Goals as goal
use Rattle.plane.proofs.laws.Border.{not_inner_left}

pub returns-in-Some : goal.returns-in-Some
returns-in-Some c = (λ t. absurd (search rules), λ inner. absurd (not_inner_left c.args.self.now c.args.v c.in-Some.field-0 c.in-Some.ensures inner))

pub returns-in-None : goal.returns-in-None
returns-in-None c = inner_by_last c.args.self.now c.args.v c.border_before.result c.is_none.result c.in-None.ensures c.border_before.ensures c.is_none.ensures
