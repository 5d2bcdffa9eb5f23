use Rattle.std.specs.List.{IsFirstMaxByKey}
use Rattle.price_defs.specs.declared.row.Certificate.{Certificate}
use Rattle.price_defs.specs.Loads.{value}
use Rattle.lower_bounds.proofs.bests.best_place.Given as goal

abbrev pub invariant-loop-k : goal.invariant-loop-k
invariant-loop-k l = IsFirstMaxByKey (λ (c : Certificate). value 0 c.q c.rows) l.list l.k l.best
