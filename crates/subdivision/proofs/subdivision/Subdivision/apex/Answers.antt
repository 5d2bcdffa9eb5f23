use Rattle.std.proofs.Common.{subst, pos, ◌<ℤ◌, sym, ◌∙◌}
use Rattle.std.proofs.lemmas.Bool.{false≢true}
use Rattle.plane.specs.Geometry.{orientation}
use Rattle.star.proofs.laws.Apexes.{apex_left, apex_none, apex_apart}
use Rattle.subdivision.proofs.subdivision.Subdivision.apex.Goals as goal

pub returns-in-None : goal.returns-in-None
returns-in-None c = apex_apart _ _ c.args.self.now.kept c.args.p c.args.q c.vertex_star.result.now c.vertex_star.ensures.of c.in-None.ensures

pub returns-then-is_left : goal.returns-then-is_left
returns-then-is_left c =
    apex_left _ _ c.args.self.now.kept c.args.p c.args.q c.in-Some.r c.vertex_star.result.now c.vertex_star.ensures.subdivision.agreed.triangulation c.vertex_star.ensures.of c.in-Some.ensures
    (subst (λ S. pos 0 <ℤ orientation S c.args.p c.args.q c.in-Some.r) c.requires.points (c.is_left.ensures.0 c.if-is_left.true))

pub returns-else-is_left : goal.returns-else-is_left
returns-else-is_left c =
    apex_none _ _ c.args.self.now.kept c.args.p c.args.q c.in-Some.r c.vertex_star.result.now c.vertex_star.ensures.subdivision.agreed.triangulation c.vertex_star.ensures.of c.in-Some.ensures
    (λ h. false≢true (sym c.if-is_left.false ∙ c.is_left.ensures.1 (subst (λ S. pos 0 <ℤ orientation S c.args.p c.args.q c.in-Some.r) (sym c.requires.points) h)))
