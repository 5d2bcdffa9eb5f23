use Rattle.std.proofs.Common.{◌≡◌, ◌<◌, ℕ, slice_index_or}
use Rattle.plane.specs.declared.segment.Pair.{Pair}
use Rattle.triangulation_check.specs.Apexes.{HasApexWhereLeft}
use Rattle.triangulation_check.proofs.apexes.have_apexes_by.Given as goal

abbrev pub invariant-loop-e : goal.invariant-loop-e
invariant-loop-e l = (k : ℕ) (e : Pair) → k < l.e-index → slice_index_or l.list k e ≡ e → HasApexWhereLeft l.points l.list e.lo e.hi × HasApexWhereLeft l.points l.list e.hi e.lo
