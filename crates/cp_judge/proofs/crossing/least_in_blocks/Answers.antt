use Rattle.crossings.proofs.laws.Blocks.{near_replicate}
use Rattle.cp_judge.proofs.crossing.least_in_blocks.Goals as goal

pub set_blocks-requires-clause-near_blocks : goal.set_blocks-requires-clause-near_blocks
set_blocks-requires-clause-near_blocks c = near_replicate 1250 c.around-blocks.result c.around-blocks.ensures.near

pub set_blocks-requires-clause-near_groups : goal.set_blocks-requires-clause-near_groups
set_blocks-requires-clause-near_groups c = near_replicate 79 c.around-groups.result c.around-groups.ensures.near
