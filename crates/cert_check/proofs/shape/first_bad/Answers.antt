use Rattle.std.proofs.Common.{sym, ◌∙◌}
use Rattle.std.proofs.lemmas.Bool.{false≢true}
use Rattle.cert_check.proofs.Shapes.{bad_row}
use Rattle.cert_check.proofs.shape.first_bad.Goals as goal

pub returns-then-not-is_right : goal.returns-then-not-is_right
returns-then-not-is_right c =
    bad_row c.args.points.now c.args.rows.now c.loop-k.k c.index-rows-k.result c.loop-k-test.true c.index-rows-k.is
    (λ h. false≢true (sym c.if-not-is_right.true ∙ c.in_ok-is_right.ensures.right.1 h)) c.loop-k.invariant.2
