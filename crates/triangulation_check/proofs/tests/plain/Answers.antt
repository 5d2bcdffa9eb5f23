use Rattle.std.proofs.Common.{rules}
use Rattle.triangulation_check.proofs.tests.plain.Goals as goal

pub are_clear-requires : goal.are_clear-requires
are_clear-requires c = c.are_within.ensures.0 (search rules)

pub are_plane-requires : goal.are_plane-requires
are_plane-requires c = c.are_within.ensures.0 (search rules)
