use Rattle.std.specs.Prelude.{◌≡◌, map, Ok}
use Rattle.lower_bounds.proofs.bests.taken.Given as goal

abbrev pub invariant-loop-item : goal.invariant-loop-item
invariant-loop-item l = map Ok l.list.items ≡ l.yielded
