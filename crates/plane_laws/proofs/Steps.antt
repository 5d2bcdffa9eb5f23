-- Steps that lead on by x, then by y, and the signs of their cross products.
use Rattle.std.proofs.Common.{◌≡◌, ℤ, pos, arith, inl, inr, ◌⊎◌}
use Rattle.std.specs.Prelude.{◌<ℤ◌, ◌≤ℤ◌}
use Rattle.std.proofs.lemmas.Int.{ints}
use Rattle.number_laws.proofs.Crosses.{cross, three_across}
use Rattle.number_laws.proofs.Signs.{mul_weak, positive_positive}
use Rattle.number_laws.proofs.Signs.{zero_left, zero_right, cancel_weak, cancel_strict}

-- the step leads on
abbrev pub Ahead : (x y : ℤ) → Type 0
Ahead x y = (pos 0 <ℤ x) ⊎ ((x ≡ pos 0) × (pos 0 <ℤ y))

pub ahead_weak : (x y : ℤ) → Ahead x y → pos 0 ≤ℤ x
ahead_weak x y (inl h) = omega (arith, ints)
ahead_weak x y (inr h) = omega (arith, ints, h.0)

pub turn_weak : (ux uy vx vy wx wy : ℤ) → Ahead ux uy → Ahead vx vy → Ahead wx wy → pos 0 ≤ℤ cross ux uy vx vy → pos 0 ≤ℤ cross vx vy wx wy → pos 0 ≤ℤ cross ux uy wx wy
turn_weak ux uy vx vy wx wy hu (inl hv) hw hx hy =
    cancel_weak vx (cross ux uy wx wy) hv
    (omega (arith, ints, three_across ux uy vx vy wx wy, mul_weak ux (cross vx vy wx wy) (ahead_weak ux uy hu) hy, mul_weak wx (cross ux uy vx vy) (ahead_weak wx wy hw) hx))
turn_weak ux uy vx vy wx wy hu (inr hv) (inl hw) hx hy =
    absurd (omega (arith, ints, zero_left vx wy hv.0, positive_positive vy wx hv.1 hw))
turn_weak ux uy vx vy wx wy hu (inr hv) (inr hw) hx hy =
    omega (arith, ints, zero_right uy wx hw.0, mul_weak ux wy (ahead_weak ux uy hu) (omega (arith, ints, hw.1)))

pub turn_first : (ux uy vx vy wx wy : ℤ) → Ahead ux uy → Ahead vx vy → Ahead wx wy → pos 0 <ℤ cross ux uy vx vy → pos 0 ≤ℤ cross vx vy wx wy → pos 0 <ℤ cross ux uy wx wy
turn_first ux uy vx vy wx wy hu (inl hv) (inl hw) hx hy =
    cancel_strict vx (cross ux uy wx wy) hv
    (omega (arith, ints, three_across ux uy vx vy wx wy, mul_weak ux (cross vx vy wx wy) (ahead_weak ux uy hu) hy, positive_positive wx (cross ux uy vx vy) hw hx))
turn_first ux uy vx vy wx wy (inl hu) (inl hv) (inr hw) hx hy =
    omega (arith, ints, zero_right uy wx hw.0, positive_positive ux wy hu hw.1)
turn_first ux uy vx vy wx wy (inr hu) (inl hv) (inr hw) hx hy =
    absurd (omega (arith, ints, zero_left ux vy hu.0, positive_positive uy vx hu.1 hv))
turn_first ux uy vx vy wx wy hu (inr hv) (inl hw) hx hy =
    absurd (omega (arith, ints, zero_left vx wy hv.0, positive_positive vy wx hv.1 hw))
turn_first ux uy vx vy wx wy (inl hu) (inr hv) (inr hw) hx hy =
    omega (arith, ints, zero_right uy wx hw.0, positive_positive ux wy hu hw.1)
turn_first ux uy vx vy wx wy (inr hu) (inr hv) (inr hw) hx hy =
    absurd (omega (arith, ints, zero_left ux vy hu.0, zero_right uy vx hv.0))

pub turn_last : (ux uy vx vy wx wy : ℤ) → Ahead ux uy → Ahead vx vy → Ahead wx wy → pos 0 ≤ℤ cross ux uy vx vy → pos 0 <ℤ cross vx vy wx wy → pos 0 <ℤ cross ux uy wx wy
turn_last ux uy vx vy wx wy (inl hu) (inl hv) hw hx hy =
    cancel_strict vx (cross ux uy wx wy) hv
    (omega (arith, ints, three_across ux uy vx vy wx wy, positive_positive ux (cross vx vy wx wy) hu hy, mul_weak wx (cross ux uy vx vy) (ahead_weak wx wy hw) hx))
turn_last ux uy vx vy wx wy (inr hu) (inl hv) hw hx hy =
    absurd (omega (arith, ints, zero_left ux vy hu.0, positive_positive uy vx hu.1 hv))
turn_last ux uy vx vy wx wy hu (inr hv) hw hx hy =
    absurd (omega (arith, ints, zero_left vx wy hv.0, mul_weak vy wx (omega (arith, ints, hv.1)) (ahead_weak wx wy hw)))
