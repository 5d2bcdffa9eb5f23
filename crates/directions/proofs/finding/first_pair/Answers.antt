use Rattle.directions.proofs.Found.{none_more}
use Rattle.directions.proofs.finding.first_pair.Goals as goal

pub loop-q-preserved : goal.loop-q-preserved
loop-q-preserved c = none_more c.args.points.now c.args.p c.loop-q.q c.loop-q.invariant c.in_default.ensures
