use Rattle.triangulate.proofs.Done.{done}
use Rattle.triangulate.proofs.sweep.sweep_pairs.Goals as goal

pub returns : goal.returns
returns c =
    done c.args.points.now c.in_ok-sweep.sweep.pairs.items c.in_ok-sweep.sweep.lower c.in_ok-sweep.sweep.upper c.in_ok-sweep.ensures
