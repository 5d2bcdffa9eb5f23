use Rattle.std.proofs.Common.{◌↔◌, ◌∙◌, IsTrue, subst, sym}
use Rattle.std.proofs.lemmas.Bool.{false≢true}
use Rattle.plane.specs.Accepted.{AreAccepted}
use Rattle.star.specs.Stars.{Seen, IsStar}
use Rattle.star.specs.Gaps.{MissesSome}
use Rattle.star.proofs.laws.Needs.{met_of_none_missed}
use Rattle.star.proofs.star.Star.misses_some.Goals as goal

pub returns-clause-missed : goal.returns-clause-missed
returns-clause-missed c =
    subst (λ (s : Seen). IsTrue c.self.inside.misses ↔ MissesSome s.points s.centre s.list) c.self.view_is c.self.invariant.right.wide

pub returns-clause-met : goal.returns-clause-met
returns-clause-met c = λ f.
    met_of_none_missed c.args.self.now.points c.args.self.now.centre c.args.self.now.list
    (subst (λ (s : Seen). AreAccepted s.points) c.self.view_is c.self.invariant.right.accepted)
    (subst IsStar c.self.view_is c.self.invariant.right.order)
    (λ m. false≢true (sym f ∙ (returns-clause-missed c).1 m))
