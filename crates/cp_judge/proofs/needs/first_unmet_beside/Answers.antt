use Rattle.std.proofs.Common.{rules}
use Rattle.cp_judge.proofs.Rounds.{others_of_joined, met_by_joined}
use Rattle.cp_judge.proofs.needs.first_unmet_beside.Goals as goal

pub is_met_round-requires-clause-others : goal.is_met_round-requires-clause-others
is_met_round-requires-clause-others c = others_of_joined c.args.points.now c.args.list.now c.args.p c.as_slice.result.now c.requires.within (rw c.as_slice.ensures.value c.requires.run)

pub returns-then-is_met_round : goal.returns-then-is_met_round
returns-then-is_met_round c = λ _.
    met_by_joined c.args.points.now c.args.list.now c.args.p c.as_slice.result.now c.requires.within (rw c.as_slice.ensures.value c.requires.run) (c.is_met_round.ensures c.if-is_met_round.true)

pub returns-then-marks-p : goal.returns-then-marks-p
returns-then-marks-p c = λ inner. absurd (c.requires.marks c.args.p c.requires.p_in (search rules) inner)
