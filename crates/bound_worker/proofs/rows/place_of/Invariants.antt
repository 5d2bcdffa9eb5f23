use Rattle.std.proofs.Common.{◌≡◌, take, false}
use Rattle.std.specs.List.{list_any}
use Rattle.search_defs.specs.Priced.{is_half}
use Rattle.bound_worker.proofs.rows.place_of.Given as goal

abbrev pub invariant-loop-k : goal.invariant-loop-k
invariant-loop-k l = list_any (is_half l.p l.r) (take l.k l.rows) ≡ false
