use Rattle.std.proofs.Common.{◌↔◌, ◌∙◌, ◌||◌, ap, List, IsTrue, subst, sym}
use Rattle.plane.specs.Accepted.{AreAccepted}
use Rattle.star.specs.Stars.{Seen, IsStar}
use Rattle.star.specs.Gaps.{IsKept}
use Rattle.star.specs.declared.links.Link.{Link}
use Rattle.star.specs.Links.{link, MissesWithoutPlace}
use Rattle.star.proofs.Answers.{opens_answer}
use Rattle.star.proofs.laws.Needs.{answered_by_name, met_of_answer}
use Rattle.star.proofs.star.Star.opens_at.Goals as goal

pub returns-clause-opens : goal.returns-clause-opens
returns-clause-opens c =
    answered_by_name c.args.self.now c.args.k c.opens.result (subst IsStar c.self.view_is c.self.invariant.right.order) c.requires
    (subst (λ (s : Seen). IsTrue c.opens.result ↔ MissesWithoutPlace s.points s.centre s.list c.args.k) c.self.view_is
    (opens_answer c.self.inside.points.value c.self.inside.centre c.self.inside.list.items c.self.inside.links.items c.self.inside.misses c.args.k c.opens.result c.self.invariant.right (subst (λ (s : Seen). IsKept s.list c.args.k) (sym c.self.view_is) c.requires)
    (c.opens.ensures ∙ ap (λ (xs : List Link). c.self.inside.misses || (link xs c.args.k).opens) c.deref.ensures.value)))

pub returns-clause-met : goal.returns-clause-met
returns-clause-met c =
    met_of_answer c.args.self.now c.args.k c.opens.result (subst (λ (s : Seen). AreAccepted s.points) c.self.view_is c.self.invariant.right.accepted)
    (subst IsStar c.self.view_is c.self.invariant.right.order) c.requires (returns-clause-opens c)
