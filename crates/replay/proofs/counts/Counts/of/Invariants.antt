use Rattle.std.proofs.Common.{take}
use Rattle.replay.specs.Machine.{AreCounts}
use Rattle.replay.proofs.counts.Counts.of.Given as goal

abbrev pub invariant-loop-commit : goal.invariant-loop-commit
invariant-loop-commit l = AreCounts (take l.commit-index l.journal) l.counts
