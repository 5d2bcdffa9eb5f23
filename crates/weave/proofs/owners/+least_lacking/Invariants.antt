use Rattle.std.proofs.Common.{length}
use Rattle.weave.proofs.owners.+least_lacking.Given as goal

abbrev pub decreases-least_lacking : goal.decreases-least_lacking
decreases-least_lacking l = length l.edits.now
