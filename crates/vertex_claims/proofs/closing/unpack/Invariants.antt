use Rattle.std.proofs.Common.{◌≡◌, ℕ, ◌-◌, ◌<◌, ◌≤◌, false, get_or}
use Rattle.std.specs.Prelude.{vec_capacity}
use Rattle.core.specs.Mem.Slots.{slots_filled, slots_len, slots_items}
use Rattle.core.specs.Mem.Slots.Ownership.{Filled}
use Rattle.vertex_claims.specs.Closing.{IsOut}
use Rattle.vertex_claims.proofs.closing.unpack.Given as goal

abbrev pub invariant-loop-i : goal.invariant-loop-i
invariant-loop-i g l = Filled (slots_filled l.closed.slots) l.i (slots_len l.closed.slots) × ((k : ℕ) → k < l.i → get_or (slots_filled l.closed.slots) k false ≡ false) × (slots_items l.closed.slots ≡ slots_items l.fn.closed.slots) × (slots_len l.closed.slots ≡ slots_len l.fn.closed.slots)
    × IsOut (slots_items l.fn.closed.slots) l.cells.items l.i × (slots_len l.fn.closed.slots ≤ vec_capacity l.cells) × (l.i ≤ slots_len l.fn.closed.slots)

abbrev pub decreases-loop-i : goal.decreases-loop-i
decreases-loop-i g l = slots_len l.closed.slots - l.i
