use Rattle.std.proofs.Common.{ℕ, Bool, sym, ◌∙◌, ap}
use Rattle.edit.proofs.Shown.{not_kept_at}
use Rattle.edit.proofs.marks.kept_place.Goals as goal

pub returns-else-at : goal.returns-else-at
returns-else-at c =
    not_kept_at c.args.star.now c.args.q c.in_ok-k.k c.degree-degree.ensures.order c.in_ok-k.ensures
    (sym (ap (λ (p : ℕ × Bool). p.1) c.at.ensures.entry) ∙ c.if-at.false)
