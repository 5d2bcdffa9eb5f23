use Rattle.run_defs.proofs.laws.Worked.{lone_one}
use Rattle.run_defs.proofs.laws.lone_run_is_one.Goals as goal

pub returns : goal.returns
returns c = λ D rounds seed start J L rises tri a b. lone_one c.args.points.now D rounds seed start J L c.len-count.ensures.accepted rises tri a b
