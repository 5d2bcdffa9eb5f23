use Rattle.lower_bounds.proofs.Candidates.{found_if}
use Rattle.lower_bounds.proofs.bests.all_found.Goals as goal

pub returns : goal.returns
returns g c =
    found_if c.args.points.now c.args.costs.now c.args.first.now c.args.search c.in_ok-found.found.items c.taken.result c.in_ok-found.ensures c.taken.ensures
