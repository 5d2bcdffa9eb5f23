use Rattle.std.proofs.Common.{sym, subst, refl}
use Rattle.replay.specs.Machine.{AreCounts}
use Rattle.replay.proofs.machine.enter.Goals as goal

pub returns-clause-counts : goal.returns-clause-counts
returns-clause-counts c = subst (λ J. AreCounts J c.add.new.self) (sym c.in-Ok.ensures.items) (c.add.ensures c.args.journal.now.items c.args.commit refl c.requires.counts)
