use Rattle.std.specs.Prelude.{◌+◌, ◌≤◌, length, vec_capacity}
use Rattle.std.specs.Vec.Iter.{into_iter_items, into_iter_len}
use Rattle.board.proofs.Together.{Puts}
use Rattle.board.proofs.owning.put_together.Given as goal

abbrev pub invariant-loop-holder : goal.invariant-loop-holder
invariant-loop-holder l =
    Puts l.fn.holders.items l.fn.owns.items (into_iter_items l.holders) (into_iter_items l.owns) l.passes.items
    × (length (into_iter_items l.holders) + length l.passes.items ≤ vec_capacity l.passes)

abbrev pub decreases-loop-holder : goal.decreases-loop-holder
decreases-loop-holder l = into_iter_len l.holders
