use Rattle.std.proofs.Common.{ℕ, Bool, refl, sym, subst}
use Rattle.std.specs.Prelude.{IsTrue, ◌↔◌}
use Rattle.planner.specs.Agreeing.{AgreesWith}
use Rattle.planner.proofs.Agreed.{points_there, with_some, with_none}
use Rattle.planner.proofs.agreeing.agrees_with.Goals as goal

pub agree_both-requires-clause-other : goal.agree_both-requires-clause-other
agree_both-requires-clause-other c = points_there c.args.points.now c.args.region.now c.at-q.result.0 c.in-Some.other.now c.requires.region (sym c.in-Some.ensures.star)

pub returns-in-Some : goal.returns-in-Some
returns-in-Some c =
    subst (λ (x : ℕ × Bool). IsTrue c.agree_both.result ↔ AgreesWith c.args.points.now c.args.region.now c.args.star.now x) c.at-q.ensures.entry
    (with_some c.args.points.now c.args.region.now c.args.star.now c.in-Some.other.now c.at-q.result c.agree_both.result c.requires.region (sym c.in-Some.ensures.star) c.agree_both.ensures)

pub returns-in-None : goal.returns-in-None
returns-in-None c = (
  λ t. subst (λ (x : ℕ × Bool). AgreesWith c.args.points.now c.args.region.now c.args.star.now x) c.at-q.ensures.entry (with_none c.args.points.now c.args.region.now c.args.star.now c.at-q.result (sym c.in-None.ensures.star)),
  λ h. refl,
)
