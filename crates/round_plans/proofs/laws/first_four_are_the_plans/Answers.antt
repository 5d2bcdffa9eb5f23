use Rattle.round_plans.proofs.laws.Firsts.{four_are}
use Rattle.round_plans.proofs.laws.first_four_are_the_plans.Goals as goal

pub returns : goal.returns
returns c = λ S D R v k p are. four_are S D R v k p are
