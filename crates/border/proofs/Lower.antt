-- Steps along the lower border, from a point to one that comes after it by x, then y. The points are given by a function,
-- so that the same holds of the upper border, whose points are turned by half a turn.
use Rattle.std.proofs.Common.{◌≡◌, ℕ, ◌<◌, pos, ◌-ℤ◌, ◌<ℤ◌, ◌≤ℤ◌, inl, inr, arith, sym, subst}
use Rattle.std.proofs.lemmas.Int.{ints}
use Rattle.plane.specs.declared.coordinates.Point.{Point}
use Rattle.plane.specs.Geometry.{area}
use Rattle.number_laws.proofs.Signs.{by_sign, zero_of_both}
use Rattle.plane_laws.specs.Order.{IsBefore}
use Rattle.plane_laws.proofs.Steps.{turn_weak, turn_first}
use Rattle.plane_laws.proofs.Orientations.{ahead, in_order, area_steps, area_steps_before, area_steps_into}
use Rattle.plane_laws.proofs.Between.{area_is_cross}
use Rattle.plane.proofs.laws.Area.{area_swap}
use Rattle.border.specs.Chain.{IsLower}

pub not_self : (p q : Point) → p.x ≡ q.x → p.y ≡ q.y → IsBefore p q → ⊥
not_self p q ex ey (inl h) = omega (arith, ints)
not_self p q ex ey (inr h) = omega (arith, ints, h.1)

-- one lower step doesn't begin within another
pub no_overlap : (P : ℕ → Point) (n v w a b : ℕ) → IsLower P n v w → IsLower P n a b → v < n → a < n → IsBefore (P v) (P a) → IsBefore (P a) (P w) → ⊥
no_overlap P n v w a b first second hv ha va aw =
    let g = second.left v hv in let h = second.left w first.within in
    let t = turn_weak ((P a).x -ℤ (P v).x) ((P a).y -ℤ (P v).y) ((P b).x -ℤ (P a).x) ((P b).y -ℤ (P a).y) ((P w).x -ℤ (P a).x) ((P w).y -ℤ (P a).y)
    (ahead (P v) (P a) va) (ahead (P a) (P b) second.leads) (ahead (P a) (P w) aw)
    (subst (λ z. pos 0 ≤ℤ z) (area_steps_before (P a) (P b) (P v)) g) (subst (λ z. pos 0 ≤ℤ z) (area_is_cross (P a) (P b) (P w)) h) in
    let e = area_steps (P v) (P a) (P w) in let f = area_swap (P v) (P a) (P w) in
    first.clear a ha va aw (zero_of_both (area (P v) (P w) (P a)) (first.left a ha) (omega (arith, ints)))

pub turn_off_strict : (v k w p : Point) → IsBefore v k → IsBefore v w → IsBefore v p → area v w k <ℤ pos 0 → pos 0 ≤ℤ area v w p → pos 0 <ℤ area v k p
turn_off_strict v k w p vk vw vp h g =
    let e = area_swap v w k in let a = area_is_cross v k w in let b = area_is_cross v w p in let c = area_is_cross v k p in
    let t = turn_first (k.x -ℤ v.x) (k.y -ℤ v.y) (w.x -ℤ v.x) (w.y -ℤ v.y) (p.x -ℤ v.x) (p.y -ℤ v.y) (ahead v k vk) (ahead v w vw) (ahead v p vp) (subst (λ z. pos 0 <ℤ z) a (omega (arith, ints))) (subst (λ z. pos 0 ≤ℤ z) b g) in
    subst (λ z. pos 0 <ℤ z) (sym c) t

-- where the chain turns left at v, all that is left of the side to v and behind it is left of the side from v
pub behind : (u v w k : Point) → IsBefore u v → IsBefore v w → IsBefore k v → pos 0 ≤ℤ area u v k → pos 0 ≤ℤ area u v w → pos 0 ≤ℤ area v w k
behind u v w k uv vw kv first next =
    let a = area_steps_into u v k in let b = area_steps u v w in let c = area_steps_before v w k in
    let t = turn_weak (v.x -ℤ k.x) (v.y -ℤ k.y) (v.x -ℤ u.x) (v.y -ℤ u.y) (w.x -ℤ v.x) (w.y -ℤ v.y)
    (ahead k v kv) (ahead u v uv) (ahead v w vw)
    (subst (λ z. pos 0 ≤ℤ z) a first) (subst (λ z. pos 0 ≤ℤ z) b next) in
    subst (λ z. pos 0 ≤ℤ z) (sym c) t

-- where the last side of a chain turns right towards k, what is left of the line from its end to k is left of that from
-- its start to k
pub sees_before : (a c t k : Point) → IsBefore a c → IsBefore c t → IsBefore t k → area a c k <ℤ pos 0 → pos 0 <ℤ area c k t → pos 0 <ℤ area a k t
sees_before a c t k ac ct tk right sees =
    let o = in_order a c t k ac ct tk in let e = area_swap c k t in let f = area_swap a k t in
    by_sign (area a c t)
    (λ s. omega (arith, ints, o.sum))
    (λ s. omega (arith, ints, o.sum))
    (λ s. let h : area a c k <ℤ area a c t = o.falls_first s (omega (arith, ints)) in omega (arith, ints, o.sum))

-- a chain that turns left at its last side does so at the one before it
pub bends_on : (a c t k : Point) → IsBefore a c → IsBefore c t → IsBefore t k → pos 0 ≤ℤ area a c t → pos 0 ≤ℤ area c t k → pos 0 ≤ℤ area a c k
bends_on a c t k ac ct tk first next =
    let o = in_order a c t k ac ct tk in
    let h : area a c t ≤ℤ area a c k = o.rises first next in omega (arith, ints)
