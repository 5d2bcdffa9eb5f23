use Rattle.solver_top.proofs.Complete.{not_refused, not_refused_instance, not_refused_report, not_refused_script, not_refused_rewind, not_refused_session}
use Rattle.solver_top.proofs.laws.read_or_refused.Goals as goal

pub returns-clause-judge : goal.returns-clause-judge
returns-clause-judge c = not_refused

pub returns-clause-start : goal.returns-clause-start
returns-clause-start c = not_refused_instance

pub returns-clause-check : goal.returns-clause-check
returns-clause-check c = not_refused_report

pub returns-clause-weave : goal.returns-clause-weave
returns-clause-weave c = not_refused_script

pub returns-clause-rewind : goal.returns-clause-rewind
returns-clause-rewind c = not_refused_rewind

pub returns-clause-edit : goal.returns-clause-edit
returns-clause-edit c = not_refused_session
