use Rattle.solution_io.proofs.Exact.{exact}
use Rattle.std.proofs.Common.{Err}
use Rattle.solution_io.specs.declared.fault.SolutionFault.TheVariants.{NotJson, NoMemory}
use Rattle.solution_io.proofs.Pairs.{read_answer, from_refused}
use Rattle.solution_io.proofs.reading.read_solution.Goals as goal

pub returns-in-Ok-clause-answer : goal.returns-in-Ok-clause-answer
returns-in-Ok-clause-answer c = read_answer _ _ _ c.solution_of.result c.in-Ok.ensures c.solution_of.ensures.answer

pub returns-in-Ok-clause-exact : goal.returns-in-Ok-clause-exact
returns-in-Ok-clause-exact c = exact _ c.solution_of.result (read_answer _ _ _ c.solution_of.result c.in-Ok.ensures c.solution_of.ensures.answer)

pub returns-in-Err-NotJson-clause-answer : goal.returns-in-Err-NotJson-clause-answer
returns-in-Err-NotJson-clause-answer c = from_refused _ _ (rw c.in-Err-NotJson.field-0-is at c.in-Err-NotJson.ensures)

pub returns-in-Err-NotJson-clause-exact : goal.returns-in-Err-NotJson-clause-exact
returns-in-Err-NotJson-clause-exact c = exact _ (Err NotJson) (from_refused _ _ (rw c.in-Err-NotJson.field-0-is at c.in-Err-NotJson.ensures))

pub returns-in-Err-NoMemory-clause-exact : goal.returns-in-Err-NoMemory-clause-exact
returns-in-Err-NoMemory-clause-exact c = exact _ (Err NoMemory) tt
