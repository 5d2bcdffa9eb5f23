use Rattle.std.proofs.Common.{ap, ℕ, Bool}
use Rattle.star.proofs.Deciding.{apart_before, apart_after}
use Rattle.star.proofs.tests.is_apart.Goals as goal

pub returns-then-is_before : goal.returns-then-is_before
returns-then-is_before c = λ _. apart_before _ _ _ _ c.args.q _ _ c.requires.points c.centre-centre.ensures.centre (ap (λ (p : ℕ × Bool). p.0) c.at-r.ensures.entry) (c.is_before.ensures.0 c.if-is_before.true)

pub returns-else-is_before : goal.returns-else-is_before
returns-else-is_before c = λ t. apart_after _ _ _ _ c.args.q _ _ c.requires.points c.centre-centre.ensures.centre (ap (λ (p : ℕ × Bool). p.0) c.at-r.ensures.entry) (c.is_before-else-is_before.ensures.0 t)
