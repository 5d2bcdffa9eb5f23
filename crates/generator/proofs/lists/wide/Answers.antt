use Rattle.std.proofs.Common.{arith}
use Rattle.generator.specs.Kinds.{wide_point}
use Rattle.generator.proofs.Accepting.{accepted, wide_sound}
use Rattle.generator.proofs.lists.wide.Goals as goal

pub returns-clause-accepted : goal.returns-clause-accepted
returns-clause-accepted c = accepted c.args.n wide_point c.loop-k.list.items c.requires.least c.requires.most (omega (arith, c.loop-k.list.ok, c.loop-k.invariant.count)) (λ k h. c.loop-k.invariant.each k (omega arith)) (wide_sound c.args.n c.requires.least c.requires.most)
