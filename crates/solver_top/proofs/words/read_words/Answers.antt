use Rattle.solver_top.proofs.LineFaults.{line_fault_of}
use Rattle.solver_top.proofs.words.read_words.Goals as goal

pub returns-clause-err : goal.returns-clause-err
returns-clause-err c = line_fault_of _ c.by_first_word.result c.by_first_word.ensures.err
