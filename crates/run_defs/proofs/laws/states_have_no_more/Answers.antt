use Rattle.run_defs.proofs.laws.Fewer.{kept_fewer}
use Rattle.run_defs.proofs.laws.states_have_no_more.Goals as goal

pub returns : goal.returns
returns c = λ start J rises tri legal. kept_fewer c.args.points.now start J c.len-count.ensures.accepted rises tri legal
