use Rattle.std.proofs.Common.{arith}
use Rattle.raise_laws.proofs.laws.Raises.{grown_lost}
use Rattle.price_tests.proofs.tests.starts.raised.Goals as goal

pub returns-clause-takers : goal.returns-clause-takers
returns-clause-takers c = omega (arith, grown_lost c.args.certificate.rows c.in_ok-raised.raised.rows c.in_ok-raised.ensures.grown, c.requires.takers)
