use Rattle.solve_report.proofs.laws.Headlines.{convex_throughout, last_and_minimal, none_below_bound, tells_optimal}
use Rattle.solve_report.proofs.laws.report_tells_what_is.Goals as goal

pub returns-clause-history : goal.returns-clause-history
returns-clause-history c = convex_throughout c.requires.0 c.args.report.now c.len-count.ensures.accepted c.requires.1

pub returns-clause-last : goal.returns-clause-last
returns-clause-last c = last_and_minimal c.requires.0 c.args.report.now c.len-count.ensures.accepted c.requires.1

pub returns-clause-bound : goal.returns-clause-bound
returns-clause-bound c = none_below_bound c.requires.0 c.args.report.now c.len-count.ensures.accepted c.requires.1

pub returns-clause-optimal : goal.returns-clause-optimal
returns-clause-optimal c = tells_optimal c.requires.0 c.args.report.now c.requires.1
