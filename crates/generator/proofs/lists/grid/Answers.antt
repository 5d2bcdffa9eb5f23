use Rattle.std.proofs.Common.{arith}
use Rattle.generator.specs.Kinds.{grid_point}
use Rattle.generator.proofs.Accepting.{accepted, grid_sound}
use Rattle.generator.proofs.lists.grid.Goals as goal

pub returns-clause-accepted : goal.returns-clause-accepted
returns-clause-accepted c = accepted c.args.n (grid_point c.side_of-side.result) c.loop-k.list.items c.requires.least c.requires.most (omega (arith, c.loop-k.list.ok, c.loop-k.invariant.count)) (λ k h. c.loop-k.invariant.each k (omega arith)) (grid_sound c.args.n c.side_of-side.result c.requires.least c.requires.most c.side_of-side.ensures.side)
