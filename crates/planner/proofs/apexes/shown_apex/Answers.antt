use Rattle.std.proofs.Common.{sym, ◌∙◌}
use Rattle.std.proofs.lemmas.Bool.{false≢true}
use Rattle.planner.proofs.Across.{not_shown}
use Rattle.planner.proofs.apexes.shown_apex.Goals as goal

pub returns-else-is_left : goal.returns-else-is_left
returns-else-is_left c =
    not_shown c.args.points.now c.args.star.now c.centre.result c.args.q c.in_ok-r.r c.centre.ensures.centre c.degree-degree.ensures.order c.in_ok-r.ensures
    (λ h. false≢true (sym c.if-is_left.false ∙ c.is_left.ensures.1 h))
