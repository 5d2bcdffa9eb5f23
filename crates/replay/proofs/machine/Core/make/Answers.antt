use Rattle.replay.proofs.Cores.{core_made}
use Rattle.replay.proofs.machine.Core.make.Goals as goal

pub returns-clause-core : goal.returns-clause-core
returns-clause-core c = core_made _ _ _ _ _ _ c.len-count.ensures.accepted c.requires.points c.requires.kept c.pairs.ensures.subdivision c.in-Ok.ensures.list c.new-journal.ensures.items c.none.ensures
