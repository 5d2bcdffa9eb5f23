use Rattle.std.proofs.Common.{subst, sym}
use Rattle.subdivision.specs.Layout.{AreAgreed}
use Rattle.subdivision.proofs.Members.{subdivision_own, all_joins, kept_joins}
use Rattle.subdivision.proofs.subdivision.Subdivision.from_stars.Goals as goal

pub returns-clause-subdivision : goal.returns-clause-subdivision
returns-clause-subdivision c = subdivision_own _ _ (subst (λ S. AreAgreed S c.args.stars.items) (sym c.of.ensures) c.requires)

pub returns-clause-same : goal.returns-clause-same
returns-clause-same c = λ T K so. (all_joins c.args.points.now T K c.args.stars.items so, kept_joins c.args.points.now T K c.args.stars.items so)
