use Rattle.tree_defs.proofs.laws.Faults.{one_fault, complete_has_none}
use Rattle.tree_defs.proofs.laws.verdict_is_one.Goals as goal

pub returns : goal.returns
returns c = λ D nodes. (one_fault c.args.points.now D nodes, complete_has_none c.args.points.now D nodes)
