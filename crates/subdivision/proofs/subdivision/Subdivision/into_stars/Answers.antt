use Rattle.std.proofs.Common.{subst}
use Rattle.subdivision.specs.Layout.{IsSubdivision}
use Rattle.subdivision.proofs.Members.{subdivision_own}
use Rattle.subdivision.proofs.subdivision.Subdivision.into_stars.Goals as goal

pub returns-clause-subdivision : goal.returns-clause-subdivision
returns-clause-subdivision c = subst IsSubdivision c.self.view_is (subdivision_own _ _ c.self.invariant)
