use Rattle.std.proofs.Common.{◌≡◌, take, map}
use Rattle.search_worker.proofs.looking.names_around.Given as goal

abbrev pub invariant-loop-k : goal.invariant-loop-k
invariant-loop-k l = l.names.items ≡ take l.k (map (λ x. x.0) l.star.list)
