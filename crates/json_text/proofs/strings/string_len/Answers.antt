use Rattle.std.proofs.Common.{arith, inl, inr}
use Rattle.json_text.proofs.Scans.{string_ends, string_escapes, string_goes_on}
use Rattle.json_text.proofs.strings.string_len.Goals as goal
use Rattle.json_text.proofs.strings.string_len.Goals.{else-text-end-eq92-via-then-text-end-eq92+else-end-text, else-text-end-eq92-via-else-text-end-eq92}

pub returns-then-text-end-eq34-clause-value : goal.returns-then-text-end-eq34-clause-value
returns-then-text-end-eq34-clause-value c =
    omega (arith, string_ends c.args.text.now c.loop-end.end c.loop-end-test.true c.if-text-end-eq34.true)

pub loop-end-preserved-then-end-text : goal.loop-end-preserved-then-end-text
loop-end-preserved-then-end-text c =
    (omega arith, omega (arith, string_escapes c.args.text.now c.loop-end.end c.if-end-text.true c.if-text-end-eq92.true))

pub loop-end-preserved : goal.loop-end-preserved
loop-end-preserved c =
    let step = string_goes_on c.args.text.now c.loop-end.end c.loop-end-test.true c.if-text-end-eq34.false
    (elim c.else-text-end-eq92.branch [ else-text-end-eq92-via-then-text-end-eq92+else-end-text w ↦ inr (omega arith) | else-text-end-eq92-via-else-text-end-eq92 w ↦ inl w.if-text-end-eq92.false ]) in
    (omega arith, omega (arith, step))
