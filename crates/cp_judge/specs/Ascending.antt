-- For private clauses.
-- Lists of pairs in order.
use Rattle.std.specs.Prelude.{List, length}
use Rattle.std.specs.List.{AllAdjacentBelow}
use Rattle.plane.specs.declared.segment.Pair.{Pair}
use Rattle.plane.specs.First.{ComesBefore}

-- each pair comes before the next
abbrev pub RisesByNeighbours : List Pair → Type 0
RisesByNeighbours K = AllAdjacentBelow (λ e f. ComesBefore e.lo e.hi f.lo f.hi) K (length K)
