use Rattle.solve_defs.proofs.laws.Histories.{history}
use Rattle.solve_defs.proofs.laws.history_is_convex.Goals as goal

pub returns : goal.returns
returns c = λ D E start J A L K C solved is. history c.args.points.now D E start J A L K C c.len-count.ensures.accepted solved is
