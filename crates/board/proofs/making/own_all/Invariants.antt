use Rattle.std.specs.Prelude.{◌≡◌, ◌+◌, ◌≤◌, ◌++◌, List, length, vec_capacity}
use Rattle.std.specs.Vec.Iter.{into_iter_items, into_iter_len}
use Rattle.chronicle.specs.History.{ShareSeen}
use Rattle.journal_defs.specs.declared.commit.Commit.{Commit}
use Rattle.board.specs.Supplied.{AreOwn}
use Rattle.board.proofs.making.own_all.Given as goal

abbrev pub invariant-loop-share : goal.invariant-loop-share
invariant-loop-share l =
    ((done : List (ShareSeen Commit)) × (l.fn.shares.items ≡ done ++ into_iter_items l.shares) × AreOwn l.journal 1 done l.owns.items)
    × (l.caller ≡ length l.owns.items)
    × (l.caller + length (into_iter_items l.shares) ≤ 4294967295)
    × (length l.owns.items + length (into_iter_items l.shares) ≤ vec_capacity l.owns)

abbrev pub decreases-loop-share : goal.decreases-loop-share
decreases-loop-share l = into_iter_len l.shares
