use Rattle.std.proofs.Common.{◌-◌, get_or}
use Rattle.triangulate.specs.Swept.{IsSwept}
use Rattle.triangulate.proofs.sweep.sweep_through.Given as goal

abbrev pub invariant-loop-k : goal.invariant-loop-k
invariant-loop-k l = IsSwept l.points l.sweep.pairs.items l.sweep.lower l.sweep.upper (get_or l.order (l.k - 1) 0) l.k
