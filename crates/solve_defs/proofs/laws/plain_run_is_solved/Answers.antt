use Rattle.solve_defs.proofs.laws.Plain.{plain_solved}
use Rattle.solve_defs.proofs.laws.plain_run_is_solved.Goals as goal

pub returns : goal.returns
returns c = λ D E workers rounds seed start J C rises tri sweep few swept best divisor light.
    plain_solved c.args.points.now D E workers rounds seed start J C c.len-count.ensures.accepted rises tri sweep few swept best divisor light
