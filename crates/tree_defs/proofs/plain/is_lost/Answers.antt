use Rattle.std.proofs.Common.{inl, inr, sym, ◌∙◌}
use Rattle.std.proofs.lemmas.Bool.{false≢true}
use Rattle.tree_defs.proofs.plain.is_lost.Goals as goal

pub returns-then-joins : goal.returns-then-joins
returns-then-joins c = (λ t. inl (c.joins.ensures.0 t), λ k. c.if-joins.true)

pub returns-else-joins : goal.returns-else-joins
returns-else-joins c = (
  λ t. inr (c.crosses_between.ensures.0 t),
  λ k. elim k [ inl j ↦ absurd (false≢true (sym c.if-joins.false ∙ c.joins.ensures.1 j)) | inr x ↦ c.crosses_between.ensures.1 x ],
)
