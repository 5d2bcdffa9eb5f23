use Rattle.std.proofs.Common.{rules}
use Rattle.plane.proofs.Boxed.{in_box}
use Rattle.plane.proofs.kernel.lies_between.Goals as goal

pub returns-else-has : goal.returns-else-has
returns-else-has c = (λ t. absurd (search rules), λ h. c.has.ensures.1 (in_box _ c.args.p c.args.q c.args.r c.of.ensures h))
