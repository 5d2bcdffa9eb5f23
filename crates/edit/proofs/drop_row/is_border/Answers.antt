use Rattle.std.proofs.Common.{sym, ◌∙◌}
use Rattle.std.proofs.lemmas.Bool.{false≢true}
use Rattle.edit.proofs.TrueEnds.{border_of_missing, inside_of_both}
use Rattle.edit.proofs.drop_row.is_border.Goals as goal

pub returns-then-are_true : goal.returns-then-are_true
returns-then-are_true c = (
  λ t. border_of_missing c.args.points.now c.args.lower.now c.args.upper.now c.args.e c.near_apex-near.result c.far_apex-far.result
      (c.requires.known c.if-are_true.true) c.requires.there c.near_apex-near.ensures.apex c.far_apex-far.ensures.apex (c.is_missing.ensures.0 c.if-is_missing.true),
  λ b. c.if-are_true.true,
)

pub returns-else-is_missing : goal.returns-else-is_missing
returns-else-is_missing c = (
  λ t. absurd (false≢true t),
  λ b. absurd (inside_of_both c.args.points.now c.args.lower.now c.args.upper.now c.args.e c.near_apex-near.result c.far_apex-far.result
      c.near_apex-near.ensures.apex c.near_apex-near.ensures.within c.far_apex-far.ensures.apex c.far_apex-far.ensures.within
      (λ m. false≢true (sym c.if-is_missing.false ∙ c.is_missing.ensures.1 m)) b),
)
