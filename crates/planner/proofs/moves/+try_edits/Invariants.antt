use Rattle.std.proofs.Common.{length}
use Rattle.planner.proofs.moves.+try_edits.Given as goal

abbrev pub decreases-try_edits : goal.decreases-try_edits
decreases-try_edits l = length l.edits.now
