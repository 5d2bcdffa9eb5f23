use Rattle.std.proofs.Common.{◌≤◌, arith}
use Rattle.raise_laws.proofs.laws.Raises.{grown_lost}
use Rattle.bound_worker.proofs.tests.instances.raised_floor.Goals as goal

pub returns-clause-takers : goal.returns-clause-takers
returns-clause-takers c = omega (arith, grown_lost c.in_ok-floor.floor.rows c.in_ok-raised.raised.rows c.in_ok-raised.ensures.grown, c.in_ok-floor.ensures.takers)
