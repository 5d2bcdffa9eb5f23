use Rattle.crossings.proofs.laws.Blocks.{segments_moved}
use Rattle.crossings.proofs.segments.set_segments.Goals as goal

pub returns : goal.returns
returns c = segments_moved c.args.points.now c.args.list.now c.copy_segments.new.segments c.arrange.new.segments c.arrange.ensures c.copy_segments.ensures
