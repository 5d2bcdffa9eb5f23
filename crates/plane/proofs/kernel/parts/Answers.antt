use Rattle.std.proofs.Common.{rules}
use Rattle.plane.proofs.Wide.{plain_opposite}
use Rattle.plane.proofs.kernel.parts.Goals as goal

pub returns : goal.returns
returns c = plain_opposite c.are_opposite.result c.area_of.result c.area_of-2.result _ _ (search rules) (search rules) c.area_of.ensures c.area_of-2.ensures c.are_opposite.ensures
