-- Crossing depends neither on the order of a segment's ends nor on that of the two.
use Rattle.plane.specs.declared.coordinates.Point.{Point}
use Rattle.plane.specs.Geometry.{area, DoCross}
use Rattle.plane.proofs.laws.Area.{area_back}
use Rattle.plane.proofs.laws.Opposite.{opposite_neg, opposite_swap}

pub cross_first : (a b c d : Point) → DoCross a b c d → DoCross b a c d
cross_first a b c d h = (opposite_neg _ _ _ _ (area_back b a c) (area_back b a d) h.0, opposite_swap (area c d a) (area c d b) h.1)

pub cross_second : (a b c d : Point) → DoCross a b c d → DoCross a b d c
cross_second a b c d h = (opposite_swap (area a b c) (area a b d) h.0, opposite_neg _ _ _ _ (area_back d c a) (area_back d c b) h.1)

pub cross_swap : (a b c d : Point) → DoCross a b c d → DoCross c d a b
cross_swap a b c d h = (h.1, h.0)
