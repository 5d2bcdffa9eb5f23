use Rattle.std.proofs.Common.{subst}
use Rattle.replay.specs.Replayed.{IsCore}
use Rattle.replay.proofs.Cores.{core_of}
use Rattle.replay.proofs.machine.Core.journal.Goals as goal

pub returns-clause-core : goal.returns-clause-core
returns-clause-core c = subst IsCore c.self.view_is (core_of _ _ _ _ _ _ c.len-count.ensures.accepted c.self.invariant)
