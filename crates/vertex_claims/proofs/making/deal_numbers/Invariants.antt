use Rattle.std.proofs.Common.{◌≡◌, ◌-◌, ◌≤◌, map}
use Rattle.std.specs.Prelude.{vec_capacity}
use Rattle.index_sets.specs.Indices.{numbers_from}
use Rattle.vertex_claims.specs.Holding.{new_holder}
use Rattle.vertex_claims.specs.Resting.{named, IsDealing}
use Rattle.vertex_claims.proofs.making.deal_numbers.Given as goal

abbrev pub invariant-loop-number : goal.invariant-loop-number
invariant-loop-number g l = (l.seat.table_id ≡ l.top.table_id) × IsDealing l.top.key l.number l.seat.me
    × (l.holders.items ≡ map (new_holder (named l.top.table_id l.top.key)) (numbers_from 1 (l.number - 1))) × (l.callers ≤ vec_capacity l.holders) × (1 ≤ l.number)
