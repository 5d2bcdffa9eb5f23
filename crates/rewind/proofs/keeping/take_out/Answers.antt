use Rattle.std.proofs.Common.{◌∙◌}
use Rattle.rewind.proofs.Keys.{key_taken, keys_ascend}
use Rattle.rewind.proofs.keeping.take_out.Goals as goal

pub returns : goal.returns
returns c = c.remove.ensures.keys ∙ key_taken c.args.e _ (keys_ascend _ c.len-count.ensures.ordered)
