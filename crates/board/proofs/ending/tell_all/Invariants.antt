use Rattle.std.specs.Prelude.{◌≡◌, ◌++◌, List, length, true}
use Rattle.std.specs.List.{AllByRecursion}
use Rattle.index_sets.specs.Indices.{contains}
use Rattle.board.specs.declared.own.Own.{Own}
use Rattle.board.specs.Ended.{IsToldOwn}
use Rattle.board.proofs.ending.tell_all.Given as goal

abbrev pub invariant-loop-own : goal.invariant-loop-own
invariant-loop-own l =
    ((done : List Own) × (l.fn.owns.items ≡ l.owns.items ++ done) × AllByRecursion (IsToldOwn l.fn.whole.seen) done)
    × (l.whole.of ≡ l.chronicle) × (l.whole.caller ≡ 0) × (l.whole.seen ≡ l.fn.whole.seen) × (contains l.whole.parts l.chronicle.last ≡ true)

abbrev pub decreases-loop-own : goal.decreases-loop-own
decreases-loop-own l = length l.owns.items
