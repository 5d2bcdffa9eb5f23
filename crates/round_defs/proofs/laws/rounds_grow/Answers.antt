use Rattle.round_defs.proofs.laws.Grown.{rounds_grown}
use Rattle.round_defs.proofs.laws.rounds_grow.Goals as goal

pub returns : goal.returns
returns c = λ D start J L words legal h. rounds_grown c.args._points.now D start J L words legal h
