use Rattle.std.proofs.Common.{List, drop}
use Rattle.cost_defs.specs.Costs.{Costed}
use Rattle.planner.specs.Region.{sights}
use Rattle.round_defs.proofs.laws.Firsts.{Decides}
use Rattle.round_plans.specs.Choices.{flips_to}
use Rattle.round_plans.proofs.walking.first_flip.Given as goal

abbrev pub invariant-loop-k : goal.invariant-loop-k
invariant-loop-k l = (D : List Costed) → Decides l.points D (sights l.region) (flips_to l.v (drop l.k l.list)) (flips_to l.v l.list)
