use Rattle.std.proofs.Common.{◌≡◌, ◌+◌, ◌-◌, ◌≤◌, ◌<◌, length, vec_len}
use Rattle.std.specs.Io.KnownBytes.{Consumes}
use Rattle.mcp_outside.proofs.whole.read_on.Given as goal

abbrev pub invariant-loop-bytes : goal.invariant-loop-bytes
invariant-loop-bytes g l =
    (0 < length l.chunk)
    × (vec_len l.bytes ≤ l.limit)
    × (g.S.Source.faults l.source.source.now ≡ g.S.Source.faults l.fn.source.source.now)
    × Consumes (g.S.Source.left l.fn.source.source.now) (g.S.Source.left l.source.source.now) l.bytes.items
    × (l.source.steps.now ≤ l.fn.source.steps.now + vec_len l.bytes)
    × (l.source.source.ghost_name ≡ l.fn.source.source.ghost_name)
    × (l.source.steps.ghost_name ≡ l.fn.source.steps.ghost_name)

abbrev pub decreases-loop-bytes : goal.decreases-loop-bytes
decreases-loop-bytes g l = l.limit + 1 - vec_len l.bytes
