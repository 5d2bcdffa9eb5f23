use Rattle.std.proofs.Common.{length}
use Rattle.replay.proofs.editing.+make_edits.Given as goal

abbrev pub decreases-make_edits : goal.decreases-make_edits
decreases-make_edits l = length l.edits.now
