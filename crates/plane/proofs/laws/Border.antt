-- Border steps, border pairs and clear pairs.
use Rattle.std.proofs.Common.{◌≡◌, ◌≢◌, ◌<◌, ℕ, List, length, ℤ, pos, ◌<ℤ◌, ◌≤ℤ◌, neg_ℤ, ◌⊎◌, inl, inr, arith, sym, subst, refl, min, max, ◌↔◌}
use Rattle.std.proofs.lemmas.Int.{ints}
use Rattle.plane.specs.declared.coordinates.Point.{Point}
use Rattle.plane.specs.declared.coordinates.Turn.{Turn}
use Rattle.plane.specs.declared.coordinates.Turn.TheVariants.{Left, Straight, Right}
use Rattle.plane.specs.Geometry.{point, orientation, IsBetween, IsClear, IsBorderPair, IsInner}
use Rattle.plane.specs.Accepted.{AreAccepted, AreApart}
use Rattle.plane.specs.Hull.{IsOnSide, IsBorderStep}
use Rattle.plane.specs.Walks.{IsBeyond, IsFurther}
use Rattle.plane.proofs.laws.Area.{area_swap, area_back}
use Rattle.plane.proofs.laws.Along.{between_swap, other_side, other_side_right, one_between, between_beyond}
use Rattle.plane.proofs.laws.Line.{collinear}
use Rattle.std.proofs.lemmas.Bool.{cases_lt}
use Rattle.number_laws.proofs.Naturals.{below_or_above, equal_or_not}

pub points_differ : (S : List Point) (i j : ℕ) → AreApart S → i < length S → j < length S → i ≢ j → point S i ≢ point S j
points_differ S i j apart hi hj ne e = elim (below_or_above i j ne) [ inl h ↦ apart i j h hj e | inr h ↦ apart j i h hi (sym e) ]

-- a point further out than one that isn't opposite to the border step isn't opposite to it
pub further_not_opposite : (S : List Point) (side : Turn) (v w b r : ℕ) → IsBorderStep S side v w → b < length S → ¬ IsBetween S v w b → IsFurther S side v b r → ¬ IsBetween S v w r
further_not_opposite S side v w b r step hb off (inr h) opposite = off (between_beyond (point S v) (point S w) (point S r) (point S b) opposite h)
further_not_opposite S Left v w b r step hb off (inl h) opposite =
    let far = other_side (point S v) (point S w) (point S r) (point S b) opposite h in
    let e = area_swap (point S v) (point S w) (point S b) in
    omega (arith, ints, far, e, step.all b hb)
further_not_opposite S Straight v w b r step hb off (inl h) opposite = absurd h
further_not_opposite S Right v w b r step hb off (inl h) opposite =
    let far = other_side_right (point S v) (point S w) (point S r) (point S b) opposite h in
    let e = area_swap (point S v) (point S w) (point S b) in
    omega (arith, ints, far, e, step.all b hb)

-- the border step's own point is further out than any other that isn't opposite to it
pub step_is_further : (S : List Point) (side : Turn) (v w b : ℕ) → AreApart S → side ≢ Straight → IsBorderStep S side v w → v < length S → b < length S → b ≢ v → b ≢ w → ¬ IsBetween S v w b → IsFurther S side v b w
step_is_further S side v w b apart bent step hv hb bv bw off =
    elim (place side (orientation S v w b) bent (step.all b hb)) [
      | inl zero ↦ inr (elim (one_between (point S v) (point S w) (point S b) (points_differ S v w apart hv step.within (λ e. step.apart (sym e))) (points_differ S v b apart hv hb (λ e. bv (sym e))) (points_differ S w b apart step.within hb (λ e. bw (sym e))) zero) [
        | inl h ↦ absurd (off h)
        | inr rest ↦ elim rest [ inl h ↦ h | inr h ↦ absurd (step.clear b hb h) ]
      ])
      | inr turn ↦ inl (beyond side (orientation S v w b) (orientation S v b w) (area_swap (point S v) (point S b) (point S w)) turn)
    ]
  where
    place : (side : Turn) (z : ℤ) → side ≢ Straight → IsOnSide side z → (z ≡ pos 0) ⊎ IsBeyond side (neg_ℤ z)
    place Left z bent h = grind (arith, ints)
    place Straight z bent h = absurd (bent refl)
    place Right z bent h = grind (arith, ints)

    beyond : (side : Turn) (y z : ℤ) → z ≡ neg_ℤ y → IsBeyond side (neg_ℤ y) → IsBeyond side z
    beyond side y z e h = subst (IsBeyond side) (sym e) h

-- nothing is further out than the border step's own point
pub none_is_further : (S : List Point) (side : Turn) (v w r : ℕ) → IsBorderStep S side v w → r < length S → ¬ IsFurther S side v w r
none_is_further S side v w r step hr (inr h) = step.clear r hr h
none_is_further S Left v w r step hr (inl h) = omega (arith, ints, h, step.all r hr)
none_is_further S Straight v w r step hr (inl h) = h
none_is_further S Right v w r step hr (inl h) = omega (arith, ints, h, step.all r hr)

-- where the walk stands opposite to the border step, it opposite_is_in_line for each point off the line
pub opposite_is_in_line : (S : List Point) (side : Turn) (v w b x : ℕ) → side ≢ Straight → IsBorderStep S side v w → x < length S → IsBetween S v w b → ¬ IsFurther S side v b x → orientation S v w x ≡ pos 0
opposite_is_in_line S Left v w b x bent step hx opposite near = zero_of_not (orientation S v w x) (step.all x hx) (λ h. near (inl (
    let e = area_swap (point S v) (point S x) (point S w) in
    let far = other_side (point S v) (point S b) (point S w) (point S x) (between_swap (point S v) (point S w) (point S b) opposite) (omega (arith, ints, h, e)) in
    let f = area_swap (point S v) (point S x) (point S b) in omega (arith, ints, far, f))))
  where
    zero_of_not : (z : ℤ) → pos 0 ≤ℤ z → ¬ (pos 0 <ℤ z) → z ≡ pos 0
    zero_of_not z h n = grind (arith, ints)
opposite_is_in_line S Straight v w b x bent step hx opposite near = absurd (bent refl)
opposite_is_in_line S Right v w b x bent step hx opposite near = zero_of_not (orientation S v w x) (step.all x hx) (λ h. near (inl (
    let e = area_swap (point S v) (point S x) (point S w) in
    let far = other_side_right (point S v) (point S b) (point S w) (point S x) (between_swap (point S v) (point S w) (point S b) opposite) (omega (arith, ints, h, e)) in
    let f = area_swap (point S v) (point S x) (point S b) in omega (arith, ints, far, f))))
  where
    zero_of_not : (z : ℤ) → z ≤ℤ pos 0 → ¬ (z <ℤ pos 0) → z ≡ pos 0
    zero_of_not z h n = grind (arith, ints)

-- not all points are in line with two of them
pub not_all_in_line : (S : List Point) (v w : ℕ) → AreAccepted S → v < length S → w < length S → v ≢ w → ¬ ((x : ℕ) → x < length S → orientation S v w x ≡ pos 0)
not_all_in_line S v w accepted hv hw ne all =
    let (p, q, r, hp, hq, hr, bent) = accepted.spread in
    bent (collinear (point S v) (point S w) (point S p) (point S q) (point S r) (points_differ S v w accepted.apart hv hw ne) (all p hp) (all q hq) (all r hr))

-- a border pair is a step one way round or the other
pub step_of_border : (S : List Point) (v w : ℕ) → w < length S → w ≢ v → IsBorderPair S v w → IsBorderStep S Left v w ⊎ IsBorderStep S Right v w
step_of_border S v w hw ne pair = elim pair.1 [
  | inl h ↦ inl (record { within = hw; apart = ne; clear = pair.0; all = h })
  | inr h ↦ inr (record { within = hw; apart = ne; clear = pair.0; all = λ k hk. (let e = area_back (point S v) (point S w) (point S k) in omega (arith, ints, h k hk)) })
]

pub border_of_left : (S : List Point) (v w : ℕ) → IsBorderStep S Left v w → IsBorderPair S v w
border_of_left S v w step = (step.clear, inl step.all)

pub border_of_right : (S : List Point) (v w : ℕ) → IsBorderStep S Right v w → IsBorderPair S v w
border_of_right S v w step = (step.clear, inr (λ k hk. (let e = area_back (point S w) (point S v) (point S k) in omega (arith, ints, step.all k hk))))

pub clear_back : (S : List Point) (v w : ℕ) → IsClear S v w → IsClear S w v
clear_back S v w clear k hk on = clear k hk (between_swap (point S k) (point S w) (point S v) on)

-- the pair of two ends, the smaller first, is clear where the ends are
pub clear_of_pair : (S : List Point) (v w lo hi : ℕ) → lo ≡ min v w → hi ≡ max v w → IsClear S lo hi ↔ IsClear S v w
clear_of_pair S v w lo hi el eh = elim (cases_lt v w) [
  | inl h ↦ (let a : lo ≡ v = omega arith in let b : hi ≡ w = omega arith in (λ k. rw (← a, ← b) k, λ k. rw (a, b) k))
  | inr h ↦ (let a : lo ≡ w = omega arith in let b : hi ≡ v = omega arith in (λ k. clear_back S w v (rw (← a, ← b) k), λ k. rw (a, b) (clear_back S v w k)))
]

-- a point is inner where there is no step from it either way round
pub inner_by_steps : (S : List Point) (v : ℕ) → ((w : ℕ) → ¬ IsBorderStep S Left v w) → ((w : ℕ) → ¬ IsBorderStep S Right v w) → IsInner S v
inner_by_steps S v left right w hw ne pair = elim (step_of_border S v w hw ne pair) [ inl h ↦ left w h | inr h ↦ right w h ]

pub not_inner_left : (S : List Point) (v w : ℕ) → IsBorderStep S Left v w → ¬ IsInner S v
not_inner_left S v w step inner = inner w step.within step.apart (border_of_left S v w step)

pub not_inner_right : (S : List Point) (v w : ℕ) → IsBorderStep S Right v w → ¬ IsInner S v
not_inner_right S v w step inner = inner w step.within step.apart (border_of_right S v w step)

pub border_back : (S : List Point) (v w : ℕ) → IsBorderPair S v w → IsBorderPair S w v
border_back S v w h = (clear_back S v w h.0, elim h.1 [ inl a ↦ inr a | inr a ↦ inl a ])

left_bent : Left ≢ Straight
left_bent e = cc

-- the border step from a point is one
pub step_once : (S : List Point) (side : Turn) (v w u : ℕ) → AreAccepted S → side ≢ Straight → v < length S → IsBorderStep S side v w → IsBorderStep S side v u → w ≡ u
step_once S side v w u accepted bent hv to also = elim (equal_or_not w u) [
  | inl e ↦ e
  | inr ne ↦ absurd (none_is_further S side v u w also to.within (step_is_further S side v w u accepted.apart bent to hv also.within also.apart (λ e. ne (sym e)) (λ on.
      not_all_in_line S v w accepted hv to.within (λ e. to.apart (sym e)) (λ x hx. opposite_is_in_line S side v w u x bent to hx on (none_is_further S side v u x also hx)))))
]

pub left_step_once : (S : List Point) (v w u : ℕ) → AreAccepted S → v < length S → IsBorderStep S Left v w → IsBorderStep S Left v u → w ≡ u
left_step_once S v w u accepted hv to also = step_once S Left v w u accepted left_bent hv to also

-- a step clockwise is one counterclockwise the other way round
pub left_of_right : (S : List Point) (v w : ℕ) → v < length S → IsBorderStep S Right v w → IsBorderStep S Left w v
left_of_right S v w hv step = record {
  within = hv;
  apart = λ e. step.apart (sym e);
  clear = clear_back S v w step.clear;
  all = λ k hk. (let e = area_back (point S w) (point S v) (point S k) in omega (arith, ints, step.all k hk));
}
