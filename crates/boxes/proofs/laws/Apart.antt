-- What a box that is out of two points' ranges, or on one side of their line, says of its points.
use Rattle.std.proofs.Common.{inl, inr, pos, ◌<ℤ◌, ◌≤ℤ◌, arith}
use Rattle.std.proofs.lemmas.Int.{ints}
use Rattle.plane.specs.declared.coordinates.Point.{Point}
use Rattle.plane.specs.Geometry.{area, LiesBetween, DoCross}
use Rattle.plane.proofs.laws.Along.{range_across, range_upward}
use Rattle.plane.proofs.laws.Area.{area_swap, area_back, area_cycle}
use Rattle.plane.proofs.laws.Quadruple.{not_below_across, not_below_upward}
use Rattle.boxes.specs.declared.bounds.Bounds.{Bounds}
use Rattle.boxes.specs.Bounds.{IsWithin, IsOutOfRange}

-- a point of a box that is out of range isn't between the two
pub none_out_of_range : (b : Bounds) (p q r : Point) → IsWithin b p → IsOutOfRange b q r → ¬ LiesBetween p q r
none_out_of_range b p q r h (inl (inl o)) on = elim (range_across p q r on) [ inl e ↦ omega (arith, ints, h.0, h.1, o.0, o.1, e.0, e.1) | inr e ↦ omega (arith, ints, h.0, h.1, o.0, o.1, e.0, e.1) ]
none_out_of_range b p q r h (inl (inr o)) on = elim (range_across p q r on) [ inl e ↦ omega (arith, ints, h.0, h.1, o.0, o.1, e.0, e.1) | inr e ↦ omega (arith, ints, h.0, h.1, o.0, o.1, e.0, e.1) ]
none_out_of_range b p q r h (inr (inl o)) on = elim (range_upward p q r on) [ inl e ↦ omega (arith, ints, h.2, h.3, o.0, o.1, e.0, e.1) | inr e ↦ omega (arith, ints, h.2, h.3, o.0, o.1, e.0, e.1) ]
none_out_of_range b p q r h (inr (inr o)) on = elim (range_upward p q r on) [ inl e ↦ omega (arith, ints, h.2, h.3, o.0, o.1, e.0, e.1) | inr e ↦ omega (arith, ints, h.2, h.3, o.0, o.1, e.0, e.1) ]

-- a segment with both ends in a box that is out of range of a and c doesn't cross theirs
pub none_crosses_out_of_range : (b : Bounds) (a c p q : Point) → IsWithin b p → IsWithin b q → IsOutOfRange b a c → ¬ DoCross a c p q
none_crosses_out_of_range b a c p q hp hq (inl (inl o)) cross = not_below_across a c p q cross (inr (omega (arith, ints, hp.1, o.0), omega (arith, ints, hp.1, o.1), omega (arith, ints, hq.1, o.0), omega (arith, ints, hq.1, o.1)))
none_crosses_out_of_range b a c p q hp hq (inl (inr o)) cross = not_below_across a c p q cross (inl (omega (arith, ints, hp.0, o.0), omega (arith, ints, hq.0, o.0), omega (arith, ints, hp.0, o.1), omega (arith, ints, hq.0, o.1)))
none_crosses_out_of_range b a c p q hp hq (inr (inl o)) cross = not_below_upward a c p q cross (inr (omega (arith, ints, hp.3, o.0), omega (arith, ints, hp.3, o.1), omega (arith, ints, hq.3, o.0), omega (arith, ints, hq.3, o.1)))
none_crosses_out_of_range b a c p q hp hq (inr (inr o)) cross = not_below_upward a c p q cross (inl (omega (arith, ints, hp.2, o.0), omega (arith, ints, hq.2, o.0), omega (arith, ints, hp.2, o.1), omega (arith, ints, hq.2, o.1)))

-- a point strictly on one side of a line isn't between two points of it
pub none_left : (a b p : Point) → pos 0 <ℤ area a b p → ¬ LiesBetween p a b
none_left a b p left on = let f = area_swap a b p in omega (arith, ints, left, f, on.0)

pub none_right : (a b p : Point) → pos 0 <ℤ area b a p → ¬ LiesBetween p a b
none_right a b p right on = let f = area_cycle b a p in let g = area_cycle a p b in omega (arith, ints, right, f, g, on.0)

-- a segment that has no end right of the line from a to b doesn't cross theirs
pub none_crosses : (a b c d : Point) → pos 0 ≤ℤ area a b c → pos 0 ≤ℤ area a b d → ¬ DoCross a b c d
none_crosses a b c d hc hd cross = elim cross.0 [ inl s ↦ omega (arith, ints, hc, s.0) | inr s ↦ omega (arith, ints, hd, s.1) ]

pub none_crosses_back : (a b c d : Point) → pos 0 ≤ℤ area b a c → pos 0 ≤ℤ area b a d → ¬ DoCross a b c d
none_crosses_back a b c d hc hd cross =
    let e = area_back a b c in let f = area_back a b d in
    elim cross.0 [ inl s ↦ omega (arith, ints, hd, f, s.1) | inr s ↦ omega (arith, ints, hc, e, s.0) ]
