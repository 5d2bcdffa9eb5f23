use Rattle.std.proofs.Common.{◌≡◌, ◌≤◌, map}
use Rattle.std.specs.Prelude.{vec_capacity}
use Rattle.index_sets.specs.Indices.{numbers_from}
use Rattle.chronicle.specs.History.{caller_share}
use Rattle.chronicle.specs.Settled.{named, IsDealing}
use Rattle.chronicle.proofs.calls.deal_callers.Given as goal

abbrev pub invariant-loop-given : goal.invariant-loop-given
invariant-loop-given g l = (l.seat.table_id ≡ l.top.table_id) × IsDealing l.top.key l.fn.seat.me.0.first l.given l.seat.me
    × (l.shares.items ≡ map (caller_share g.T.Entry.caller (named l.top.table_id l.top.key l.fn.seat.me.0.first)) (numbers_from 1 l.given)) × (l.callers ≤ vec_capacity l.shares)
