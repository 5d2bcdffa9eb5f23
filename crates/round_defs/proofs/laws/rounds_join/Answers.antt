use Rattle.round_defs.proofs.laws.Grown.{rounds_on}
use Rattle.round_defs.proofs.laws.rounds_join.Goals as goal

pub returns : goal.returns
returns c = λ D start J K L words more a b. rounds_on c.args._points.now D start J K L words more a b
