use Rattle.std.proofs.Common.{arith}
use Rattle.plane.proofs.laws.Line.{on_one_line}
use Rattle.plane.proofs.making.are_on_one_line.Goals as goal

pub returns-clause-on : goal.returns-clause-on
returns-clause-on c = λ _. on_one_line c.args.list.now c.requires.count c.requires.apart (λ k h. c.loop-k.invariant k (omega arith))
