use Rattle.journal_defs.specs.Journal.{replay}
use Rattle.plan_defs.proofs.laws.Showing.{shown_agree}
use Rattle.round_defs.specs.Rounds.{looks}
use Rattle.round_defs.proofs.laws.Looks.{looks_show}
use Rattle.round_defs.proofs.laws.looks_of_a_round_agree.Goals as goal

pub returns : goal.returns
returns c = λ start J v so hv.
    shown_agree c.args.points.now (replay start J) (looks c.args.points.now start J v) c.len-count.ensures.accepted so (looks_show c.args.points.now start J v hv)
