use Rattle.round_defs.proofs.laws.Looks.{looks_show}
use Rattle.round_defs.proofs.laws.looks_show_the_state.Goals as goal

pub returns : goal.returns
returns c = λ start J v hv. looks_show c.args._points.now start J v hv
