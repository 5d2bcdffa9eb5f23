use Rattle.plan_defs.proofs.laws.Showing.{shown_agree}
use Rattle.plan_defs.proofs.laws.looks_of_a_state_agree.Goals as goal

pub returns : goal.returns
returns c = λ s R so shows. shown_agree c.args.points.now s R c.len-count.ensures.accepted so shows
