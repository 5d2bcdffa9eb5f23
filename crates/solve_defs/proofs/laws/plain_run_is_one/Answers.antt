use Rattle.solve_defs.proofs.laws.Bests.{one_best}
use Rattle.solve_defs.proofs.laws.Plain.{one_journal}
use Rattle.solve_defs.proofs.laws.plain_run_is_one.Goals as goal

pub returns : goal.returns
returns c = (λ start J L x y. one_journal c.args.points.now start J L x y, λ D workers rounds seed C O x y. one_best c.args.points.now D workers rounds seed C O x y)
