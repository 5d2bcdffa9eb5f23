use Rattle.std.proofs.Common.{map}
use Rattle.std.specs.BTreeMap.{get}
use Rattle.serde_json.specs.View.{view}
use Rattle.cost_defs.proofs.Laws.{pair_cmp}
use Rattle.instance_io.proofs.CostItems.{IsTaken}
use Rattle.instance_io.proofs.costs.costs_of.Given as goal

abbrev pub invariant-loop-place : goal.invariant-loop-place
invariant-loop-place l = IsTaken l.n (map view l.items) l.place (get pair_cmp l.found)
