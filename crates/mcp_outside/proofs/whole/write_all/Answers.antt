use Rattle.std.proofs.Common.{◌∙◌}
use Rattle.mcp_outside.proofs.Told.{given_more, still_within}
use Rattle.mcp_outside.proofs.whole.write_all.Goals as goal

pub loop-written-preserved : goal.loop-written-preserved
loop-written-preserved g c =
    let before = c.loop-written.invariant in
    let more = c.in_ok-written.ensures in (
      still_within c.args.bytes.now c.loop-written.written _ before.0 more.bound,
      more.kept ∙ before.1,
      given_more _ _ _ c.args.bytes.now c.loop-written.written c.in_ok-written.field-0 before.2 more.bytes,
    )
