use Rattle.instance_io.proofs.Answers.{read_answer, refused_answer, read_exact, refused_exact}
use Rattle.instance_io.proofs.instance.read_instance.Goals as goal

pub returns-in-Ok-clause-answer : goal.returns-in-Ok-clause-answer
returns-in-Ok-clause-answer c = read_answer _ _ _ c.in-Ok.ensures c.instance_of.ensures.answer

pub returns-in-Ok-clause-exact : goal.returns-in-Ok-clause-exact
returns-in-Ok-clause-exact c = read_exact _ _ _ c.in-Ok.ensures c.instance_of.ensures.exact

pub returns-in-Err-clause-answer : goal.returns-in-Err-clause-answer
returns-in-Err-clause-answer c = refused_answer _ _ c.in-Err.ensures

pub returns-in-Err-clause-exact : goal.returns-in-Err-clause-exact
returns-in-Err-clause-exact c = refused_exact _ _ c.in-Err.ensures
