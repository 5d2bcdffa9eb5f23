use Rattle.std.proofs.Common.{subst, sym}
use Rattle.subdivision.specs.Layout.{IsSubdivision}
use Rattle.subdivision.specs.Listing.{AreTidy}
use Rattle.subdivision.proofs.Members.{subdivision_own}
use Rattle.subdivision.proofs.Tidy.{tidy_of}
use Rattle.subdivision.proofs.subdivision.Subdivision.pairs.Goals as goal

pub listed-requires : goal.listed-requires
listed-requires c = subst AreTidy (sym c.deref.ensures.value) (tidy_of c.self.inside.points.value c.self.inside.stars.items c.self.invariant)

pub returns-clause-subdivision : goal.returns-clause-subdivision
returns-clause-subdivision c = subst IsSubdivision c.self.view_is (subdivision_own _ _ c.self.invariant)
