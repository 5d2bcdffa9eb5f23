use Rattle.std.proofs.Common.{below_more, rules}
use Rattle.triangulation_check.specs.Apexes.{IsJoined}
use Rattle.triangulation_check.proofs.joined.are_all_joined.Goals as goal

pub loop-p-preserved : goal.loop-p-preserved
loop-p-preserved c = below_more (IsJoined c.args.list.now) c.loop-p.p c.loop-p.invariant (c.is_joined.ensures.0 (search rules))
