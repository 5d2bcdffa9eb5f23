use Rattle.std.proofs.Common.{◌∙◌, inl, inr, refl, sym}
use Rattle.std.proofs.lemmas.Bool.{false≢true}
use Rattle.star.proofs.links.misses_with.Goals as goal

pub returns-else-first : goal.returns-else-first
returns-else-first c = inl (
  c.is_wide.ensures.0 c.if-is_wide.true,
  (λ t. inr (c.is_wide-second.ensures.0 t), λ h. elim h [ inl g ↦ absurd (false≢true (sym c.if-first.false ∙ c.is_wide-first.ensures.1 g)) | inr g ↦ c.is_wide-second.ensures.1 g ]),
)

pub returns-else-is_wide : goal.returns-else-is_wide
returns-else-is_wide c = inr ((λ w. false≢true (sym c.if-is_wide.false ∙ c.is_wide.ensures.1 w)), refl)
