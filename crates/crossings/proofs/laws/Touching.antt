-- Segments on two sides of an upright or a level line don't cross, even where they touch it.
use Rattle.std.proofs.Common.{◌≡◌, ℤ, pos, inl, inr, ◌-ℤ◌, ◌≤ℤ◌, arith, refl}
use Rattle.std.proofs.lemmas.Int.{ints}
use Rattle.plane.specs.declared.coordinates.Point.{Point}
use Rattle.plane.specs.Geometry.{area, DoCross}
use Rattle.number_laws.proofs.Signs.{zero_left}
use Rattle.plane.proofs.laws.Crossings.{cross_swap}
use Rattle.plane_laws.proofs.Separation.{on_two_sides}

at : (x y : ℤ) → Point
at x y = record { x = x; y = y }

upright : (m : ℤ) (r : Point) → area (at m (pos 0)) (at m (pos 1)) r ≡ m -ℤ r.x
unfolding area at
upright m r = omega (arith, ints, zero_left (m -ℤ m) (r.y -ℤ pos 0) (omega (arith, ints)))

level : (m : ℤ) (r : Point) → area (at (pos 0) m) (at (pos 1) m) r ≡ r.y -ℤ m
unfolding area at
level m r = omega (arith, ints, zero_left (m -ℤ m) (r.x -ℤ pos 0) (omega (arith, ints)))

-- the one is left of the line, or on it, and the other right of it, or on it
pub none_across : (m : ℤ) (a b c d : Point) → a.x ≤ℤ m → b.x ≤ℤ m → m ≤ℤ c.x → m ≤ℤ d.x → ¬ DoCross a b c d
unfolding at
none_across m a b c d ha hb hc hd cross =
    on_two_sides (at m (pos 0)) (at m (pos 1)) c d a b (inl (inr (refl, omega (arith, ints))))
    (let e = upright m c in omega (arith, ints)) (let e = upright m d in omega (arith, ints)) (let e = upright m a in omega (arith, ints)) (let e = upright m b in omega (arith, ints))
    (cross_swap a b c d cross)

-- the one is below the line, or on it, and the other above it, or on it
pub none_upward : (m : ℤ) (a b c d : Point) → a.y ≤ℤ m → b.y ≤ℤ m → m ≤ℤ c.y → m ≤ℤ d.y → ¬ DoCross a b c d
unfolding at
none_upward m a b c d ha hb hc hd cross =
    on_two_sides (at (pos 0) m) (at (pos 1) m) a b c d (inl (inl (omega (arith, ints))))
    (let e = level m a in omega (arith, ints)) (let e = level m b in omega (arith, ints)) (let e = level m c in omega (arith, ints)) (let e = level m d in omega (arith, ints))
    cross
