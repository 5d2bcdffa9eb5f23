use Rattle.std.proofs.Common.{sym}
use Rattle.partition_defs.proofs.are_clear.Goals as goal

pub is_clear-requires : goal.is_clear-requires
is_clear-requires c = c.requires c.e-item.result (c.loop-e.e-index, c.loop-e-test.true, sym c.e-item.is)
