use Rattle.std.proofs.Common.{◌∙◌}
use Rattle.rewind.proofs.Keys.{key_put, keys_ascend}
use Rattle.rewind.proofs.keeping.put_in.Goals as goal

pub returns : goal.returns
returns c = c.in_ok-insert.ensures.keys ∙ key_put c.args.e _ (keys_ascend _ c.len-count.ensures.ordered)
