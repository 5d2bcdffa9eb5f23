use Rattle.std.proofs.Common.{arith}
use Rattle.instance_io.proofs.Parts.{no_array, points_answer, points_short}
use Rattle.instance_io.proofs.instance.points_in.Goals as goal

pub returns-in_default-clause-answer : goal.returns-in_default-clause-answer
returns-in_default-clause-answer c = no_array _ c.in_default.ensures

pub returns-clause-short : goal.returns-clause-short
returns-clause-short c = points_short c.in-Some.items.now c.points_of.result (omega arith) c.points_of.ensures

pub returns-clause-answer : goal.returns-clause-answer
returns-clause-answer c = points_answer _ c.in-Some.items.now c.points_of.result c.in-Some.ensures c.points_of.ensures
