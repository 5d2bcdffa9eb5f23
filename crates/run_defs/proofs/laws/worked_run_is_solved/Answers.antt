use Rattle.run_defs.proofs.laws.Worked.{worked_solved}
use Rattle.run_defs.proofs.laws.worked_run_is_solved.Goals as goal

pub returns : goal.returns
returns c = λ D E workers rounds seed start J C rises tri sweep few low lower w best divisor light.
    worked_solved c.args.points.now D E workers rounds seed start J C c.len-count.ensures.accepted rises tri sweep few low lower w best divisor light
