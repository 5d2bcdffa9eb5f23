use Rattle.solution_io.proofs.Exact.{exact}
use Rattle.std.proofs.Common.{Err}
use Rattle.solution_io.specs.declared.fault.SolutionFault.TheVariants.{NoEdges}
use Rattle.solution_io.proofs.Pairs.{no_array, array_answer, too_many_answer}
use Rattle.solution_io.proofs.reading.solution_of.Goals as goal

pub returns-in_default-clause-answer : goal.returns-in_default-clause-answer
returns-in_default-clause-answer c = no_array _ _ c.in_default.ensures

pub returns-in_default-clause-exact : goal.returns-in_default-clause-exact
returns-in_default-clause-exact c = exact _ (Err NoEdges) (no_array _ _ c.in_default.ensures)

pub returns-then-items-gt-MOST_EDGES-clause-answer : goal.returns-then-items-gt-MOST_EDGES-clause-answer
returns-then-items-gt-MOST_EDGES-clause-answer c = too_many_answer _ _ c.in-Some.items.now c.too_many.result c.in-Some.ensures c.if-items-gt-MOST_EDGES.true c.too_many.ensures

pub returns-then-items-gt-MOST_EDGES-clause-exact : goal.returns-then-items-gt-MOST_EDGES-clause-exact
returns-then-items-gt-MOST_EDGES-clause-exact c = exact _ (Err c.too_many.result) (too_many_answer _ _ c.in-Some.items.now c.too_many.result c.in-Some.ensures c.if-items-gt-MOST_EDGES.true c.too_many.ensures)

pub returns-clause-answer : goal.returns-clause-answer
returns-clause-answer c = array_answer _ _ c.in-Some.items.now c.edges_of.result c.in-Some.ensures c.edges_of.ensures

pub returns-clause-exact : goal.returns-clause-exact
returns-clause-exact c = exact _ c.edges_of.result (array_answer _ _ c.in-Some.items.now c.edges_of.result c.in-Some.ensures c.edges_of.ensures)
