use Rattle.planner.proofs.moves.reserve_ends.Goals as goal

pub returns-clause-points : goal.returns-clause-points
returns-clause-points c = λ S of. c.reserve_at-2.ensures.points S (c.reserve_at.ensures.points S of)
