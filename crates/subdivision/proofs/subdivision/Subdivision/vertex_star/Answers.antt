use Rattle.std.proofs.Common.{subst, ap, ◌∙◌, get_or, arith}
use Rattle.std.proofs.lemmas.List.{get_or_default}
use Rattle.subdivision.specs.Layout.{Layout, IsSubdivision}
use Rattle.subdivision.proofs.Members.{subdivision_own, vertex_of}
use Rattle.subdivision.proofs.subdivision.Subdivision.vertex_star.Goals as goal

pub returns-clause-subdivision : goal.returns-clause-subdivision
returns-clause-subdivision c = subst IsSubdivision c.self.view_is (subdivision_own _ _ c.self.invariant)

pub returns-clause-of : goal.returns-clause-of
returns-clause-of c =
    let so : IsSubdivision c.args.self.now = returns-clause-subdivision c in
    vertex_of c.args.self.now c.args.v c.index.result.now so c.requires
    (c.index.ensures ∙ ap (λ xs. get_or xs c.args.v c.index.result.now) (ap (λ (s : Layout). s.stars) c.self.view_is) ∙ get_or_default c.args.self.now.stars c.args.v _ _ (omega (arith, so.agreed.round.0, c.requires)))
