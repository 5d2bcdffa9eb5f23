use Rattle.replay.proofs.Cores.{core_as}
use Rattle.replay.proofs.machine.Core.room.Goals as goal

pub returns-in_err-reserve-clause-core : goal.returns-in_err-reserve-clause-core
returns-in_err-reserve-clause-core c = core_as _ _ _ _ _ _ _ c.len-count.ensures.accepted c.in_err-reserve.ensures.items c.self.invariant

pub returns-clause-core : goal.returns-clause-core
returns-clause-core c = core_as _ _ _ _ _ _ _ c.len-count.ensures.accepted c.in_ok-reserve.ensures.items c.self.invariant
