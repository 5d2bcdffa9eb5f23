use Rattle.journal_defs.specs.Journal.{replay}
use Rattle.round_defs.proofs.laws.Looks.{degree_some}
use Rattle.round_defs.proofs.laws.degrees_are_positive.Goals as goal

pub returns : goal.returns
returns c = λ start J v so hv. degree_some c.args.points.now (replay start J) v so hv
