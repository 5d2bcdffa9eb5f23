-- What lies between two points is in the box round them, and the boxes round crossing segments meet.
use Rattle.std.proofs.Common.{ℤ, ◌<ℤ◌, ◌≤ℤ◌, ◌⊎◌, inl, inr, arith, to_z, of_z}
use Rattle.std.proofs.lemmas.Int.{ints, clamps, to_z-of_z}
use mir.Syntax.{w64}
use mir.Val.{SFits}
use Rattle.plane.specs.declared.coordinates.Point.{Point}
use Rattle.plane.specs.declared.bounding_box.Interval.{Interval}
use Rattle.plane.specs.declared.bounding_box.BoundingBox.{BoundingBox}
use Rattle.plane.specs.Geometry.{LiesBetween, DoCross}
use Rattle.plane.specs.Boxes.{IsIntervalOf, IsBoxOf, IsInInterval, IsInBox, DoOverlap, DoMeet}
use Rattle.plane.proofs.laws.Along.{IsInRange, range_across, range_upward}
use Rattle.plane.proofs.laws.Quadruple.{AreBelow, not_below_across, not_below_upward}

-- what a call shows of 64-bit numbers, said of the numbers themselves
pub plain_interval : (i : Interval) (a b : ℤ) → SFits w64 a → SFits w64 b → IsIntervalOf i (to_z w64 (of_z w64 a)) (to_z w64 (of_z w64 b)) → IsIntervalOf i a b
plain_interval i a b fa fb h = rw (to_z-of_z w64 a fa, to_z-of_z w64 b fb) at h

-- both numbers are in the interval between them
from_least : (i : Interval) (a b : ℤ) → IsIntervalOf i a b → (i.least ≤ℤ a) × (i.least ≤ℤ b)
from_least i a b h = let e = h.0 in (omega (arith, ints, clamps), omega (arith, ints, clamps))

to_greatest : (i : Interval) (a b : ℤ) → IsIntervalOf i a b → (a ≤ℤ i.greatest) × (b ≤ℤ i.greatest)
to_greatest i a b h = let e = h.1 in (omega (arith, ints, clamps), omega (arith, ints, clamps))

within : (i : Interval) (a b c : ℤ) → IsIntervalOf i b c → IsInRange a b c → IsInInterval i a
within i a b c is h =
    let low = from_least i b c is in let high = to_greatest i b c is in
    elim h [ inl k ↦ (omega (arith, ints), omega (arith, ints)) | inr k ↦ (omega (arith, ints), omega (arith, ints)) ]

pub in_box : (b : BoundingBox) (p q r : Point) → IsBoxOf b q r → LiesBetween p q r → IsInBox b p
in_box b p q r box h = (within b.across p.x q.x r.x box.0 (range_across p q r h), within b.upward p.y q.y r.y box.1 (range_upward p q r h))

-- two intervals of which neither is below the other overlap
overlap : (i j : Interval) (a b c d : ℤ) → IsIntervalOf i a b → IsIntervalOf j c d → ¬ (AreBelow a b c d ⊎ AreBelow c d a b) → DoOverlap i j
overlap i j a b c d hi hj h =
    let al = from_least i a b hi in let ag = to_greatest i a b hi in let cl = from_least j c d hj in let cg = to_greatest j c d hj in (
      reaches i.least j.greatest (λ n. h (inr (omega (arith, ints), omega (arith, ints), omega (arith, ints), omega (arith, ints)))),
      reaches j.least i.greatest (λ n. h (inl (omega (arith, ints), omega (arith, ints), omega (arith, ints), omega (arith, ints)))),
    )
  where
    reaches : (a b : ℤ) → ¬ (b <ℤ a) → a ≤ℤ b
    reaches a b n = grind (arith, ints)

pub boxes_meet : (e f : BoundingBox) (a b c d : Point) → IsBoxOf e a b → IsBoxOf f c d → DoCross a b c d → DoMeet e f
boxes_meet e f a b c d ab cd cross = (
  overlap e.across f.across a.x b.x c.x d.x ab.0 cd.0 (not_below_across a b c d cross),
  overlap e.upward f.upward a.y b.y c.y d.y ab.1 cd.1 (not_below_upward a b c d cross),
)
