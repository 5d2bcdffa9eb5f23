use Rattle.std.proofs.Common.{arith, ◌∙◌}
use Rattle.std.proofs.KnownBytes.{Consumes-trans}
use Rattle.std.proofs.Common.{Err}
use Rattle.mcp_outside.proofs.Told.{ends_later, took_before}
use Rattle.mcp_outside.proofs.whole.read_on.Goals as goal

pub loop-bytes-preserved : goal.loop-bytes-preserved
loop-bytes-preserved g c =
    let more = c.in-Ok.ensures in
    let before = c.loop-bytes.invariant in (
      omega (arith, c.read_piece.auto.chunk, before.0),
      more.within,
      more.kept (λ e. cc) ∙ before.2,
      rw more.bytes (Consumes-trans _ _ _ _ _ before.3 more.taken),
      omega (arith, before.4, more.call, more.len, c.in-Ok.field-0-test),
      more.same_source ∙ before.5,
      more.same_steps ∙ before.6,
    )

ends_of : goal.returns-in-Err-clause-ends
ends_of g c =
    let before = c.loop-bytes.invariant in
    ends_later _ _ _ c.loop-bytes.bytes.items _ _ _ _ _ c.in-Err.end before.3 (omega (arith, before.1)) (omega (arith, before.4)) c.in-Err.ensures.ends

pub returns-in-Err-clause-ends : goal.returns-in-Err-clause-ends
returns-in-Err-clause-ends = ends_of

pub returns-in-Err-clause-gone : goal.returns-in-Err-clause-gone
returns-in-Err-clause-gone g c = took_before (Err c.in-Err.end) _ _ _ _ _ (ends_of g c)
