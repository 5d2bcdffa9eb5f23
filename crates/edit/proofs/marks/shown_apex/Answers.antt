use Rattle.std.proofs.Common.{pos, sym, ◌∙◌, subst}
use Rattle.std.specs.Prelude.{◌<ℤ◌}
use Rattle.std.proofs.lemmas.Bool.{false≢true}
use Rattle.plane.specs.Geometry.{orientation}
use Rattle.edit.proofs.Shown.{not_left}
use Rattle.edit.proofs.marks.shown_apex.Goals as goal

pub returns-else-is_left-clause-apex : goal.returns-else-is_left-clause-apex
returns-else-is_left-clause-apex c = λ r h.
    not_left c.args.points.now c.args.star.now c.args.star.now.centre c.args.q c.in_ok-r.r c.centre.ensures.order c.in_ok-r.ensures
    (λ g. false≢true (sym c.if-is_left.false ∙ c.is_left.ensures.1 (subst (λ x. pos 0 <ℤ orientation c.args.points.now x c.args.q c.in_ok-r.r) (sym c.centre.ensures.centre) g))) r h
