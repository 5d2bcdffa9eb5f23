-- Cross products of steps, by their coordinates.
use Rattle.std.proofs.Common.{◌≡◌, ℤ, pos, ◌+ℤ◌, ◌-ℤ◌, ◌*ℤ◌, neg_ℤ, arith, sym, ◌∙◌, ap, inl, inr}
use Rattle.std.proofs.lemmas.Int.{ints}
use Rattle.std.proofs.Math.IntN.{*ℤ_comm}
use Rattle.number_laws.proofs.Products.{mul_neg, neg_mul, mul_assoc, mul_left_comm, mul_sub, mul_differences, zero_factor}
use Rattle.number_laws.proofs.Signs.{difference_zero}

-- the cross product of two steps
abbrev pub cross : (ux uy vx vy : ℤ) → ℤ
cross ux uy vx vy = ux *ℤ vy -ℤ uy *ℤ vx

pub cross_back : (ux uy vx vy : ℤ) → cross ux uy vx vy ≡ neg_ℤ (cross vx vy ux uy)
cross_back ux uy vx vy = let e = *ℤ_comm ux vy in let f = *ℤ_comm uy vx in omega (arith, ints)

pub cross_neg : (ux uy vx vy : ℤ) → cross ux uy (neg_ℤ vx) (neg_ℤ vy) ≡ neg_ℤ (cross ux uy vx vy)
cross_neg ux uy vx vy = let e = mul_neg ux vy in let f = mul_neg uy vx in omega (arith, ints)

pub neg_cross : (ux uy vx vy : ℤ) → cross (neg_ℤ ux) (neg_ℤ uy) vx vy ≡ neg_ℤ (cross ux uy vx vy)
neg_cross ux uy vx vy = let e = neg_mul ux vy in let f = neg_mul uy vx in omega (arith, ints)

pub neg_neg : (ux uy vx vy : ℤ) → cross (neg_ℤ ux) (neg_ℤ uy) (neg_ℤ vx) (neg_ℤ vy) ≡ cross ux uy vx vy
neg_neg ux uy vx vy = let e = neg_cross ux uy (neg_ℤ vx) (neg_ℤ vy) in let f = cross_neg ux uy vx vy in omega (arith, ints)

-- three steps: how far the second goes across times the cross product of the others
pub three_across : (ux uy vx vy wx wy : ℤ) → vx *ℤ cross ux uy wx wy ≡ ux *ℤ cross vx vy wx wy +ℤ wx *ℤ cross ux uy vx vy
three_across ux uy vx vy wx wy =
    omega (
      arith,
      ints,
      mul_sub vx (ux *ℤ wy) (uy *ℤ wx),
      mul_sub ux (vx *ℤ wy) (vy *ℤ wx),
      mul_sub wx (ux *ℤ vy) (uy *ℤ vx),
      mul_left_comm vx ux wy,
      mul_left_comm ux vy wx,
      mul_left_comm wx ux vy,
      mul_left_comm vx uy wx,
      mul_left_comm wx uy vx,
      *ℤ_comm vx wx,
      *ℤ_comm ux wx,
      ap (λ x. uy *ℤ x) (*ℤ_comm vx wx),
      ap (λ x. vy *ℤ x) (*ℤ_comm ux wx),
      mul_left_comm vy ux wx,
      mul_left_comm ux wx vy,
      ap (λ x. ux *ℤ x) (*ℤ_comm vy wx),
      ap (λ x. uy *ℤ x) (*ℤ_comm wx vx),
    )

gather : (l m n o p q : ℤ) → l ≡ p → m ≡ o → n ≡ q → l -ℤ m ≡ (n -ℤ o) +ℤ (p -ℤ q)
gather l m n o p q a b c = omega (arith, ints)

-- three steps: the second's height times the cross product of the others
pub three_upward : (ux uy vx vy wx wy : ℤ) → vy *ℤ cross ux uy wx wy ≡ uy *ℤ cross vx vy wx wy +ℤ wy *ℤ cross ux uy vx vy
three_upward ux uy vx vy wx wy =
    let a : vy *ℤ (ux *ℤ wy) ≡ wy *ℤ (ux *ℤ vy) = mul_left_comm vy ux wy ∙ ap (λ x. ux *ℤ x) (*ℤ_comm vy wy) ∙ mul_left_comm ux wy vy in
    let b : vy *ℤ (uy *ℤ wx) ≡ uy *ℤ (vy *ℤ wx) = mul_left_comm vy uy wx in
    let c : uy *ℤ (vx *ℤ wy) ≡ wy *ℤ (uy *ℤ vx) = ap (λ x. uy *ℤ x) (*ℤ_comm vx wy) ∙ mul_left_comm uy wy vx in
    let d = mul_sub vy (ux *ℤ wy) (uy *ℤ wx) in
    let e = mul_sub uy (vx *ℤ wy) (vy *ℤ wx) in
    let f = mul_sub wy (ux *ℤ vy) (uy *ℤ vx) in
    d ∙ gather _ _ _ _ _ _ a b c ∙ ap (λ x. x +ℤ (wy *ℤ (ux *ℤ vy) -ℤ wy *ℤ (uy *ℤ vx))) (sym e) ∙ ap (λ x. uy *ℤ cross vx vy wx wy +ℤ x) (sym f)

-- the determinant of two differences
abbrev pub determinant : (ax ay bx by cx cy : ℤ) → ℤ
determinant ax ay bx by cx cy = (bx -ℤ ax) *ℤ (cy -ℤ ay) -ℤ (by -ℤ ay) *ℤ (cx -ℤ ax)

pub det_cycle : (ax ay bx by cx cy : ℤ) → determinant ax ay bx by cx cy ≡ determinant bx by cx cy ax ay
det_cycle ax ay bx by cx cy =
    omega (arith, ints, mul_differences bx ax cy ay, mul_differences by ay cx ax, mul_differences cx bx ay by, mul_differences cy by ax bx)

pub det_swap : (ax ay bx by cx cy : ℤ) → determinant ax ay bx by cx cy ≡ neg_ℤ (determinant ax ay cx cy bx by)
det_swap ax ay bx by cx cy = omega (arith, ints)

zero_of_equal : (a b : ℤ) → a ≡ b → a -ℤ b ≡ pos 0
zero_of_equal a b h = omega (arith, ints)

scaled_across : (dx dy ux uy vx vy : ℤ) → dx *ℤ uy ≡ dy *ℤ ux → dx *ℤ vy ≡ dy *ℤ vx → dx *ℤ (ux *ℤ vy -ℤ uy *ℤ vx) ≡ pos 0
scaled_across dx dy ux uy vx vy hu hv =
    let far : dx *ℤ (ux *ℤ vy) ≡ (ux *ℤ dy) *ℤ vx = mul_left_comm dx ux vy ∙ ap (λ x. ux *ℤ x) hv ∙ sym (mul_assoc ux dy vx) in
    let near : dx *ℤ (uy *ℤ vx) ≡ (ux *ℤ dy) *ℤ vx = sym (mul_assoc dx uy vx) ∙ ap (λ x. x *ℤ vx) (hu ∙ *ℤ_comm dy ux) in
    mul_sub dx (ux *ℤ vy) (uy *ℤ vx) ∙ zero_of_equal _ _ (far ∙ sym near)

scaled_upward : (dx dy ux uy vx vy : ℤ) → dx *ℤ uy ≡ dy *ℤ ux → dx *ℤ vy ≡ dy *ℤ vx → dy *ℤ (ux *ℤ vy -ℤ uy *ℤ vx) ≡ pos 0
scaled_upward dx dy ux uy vx vy hu hv =
    let far : dy *ℤ (ux *ℤ vy) ≡ (dx *ℤ uy) *ℤ vy = sym (mul_assoc dy ux vy) ∙ ap (λ x. x *ℤ vy) (sym hu) in
    let near : dy *ℤ (uy *ℤ vx) ≡ (dx *ℤ uy) *ℤ vy = mul_left_comm dy uy vx ∙ ap (λ x. uy *ℤ x) (sym hv) ∙ sym (mul_assoc uy dx vy) ∙ ap (λ x. x *ℤ vy) (*ℤ_comm uy dx) in
    mul_sub dy (ux *ℤ vy) (uy *ℤ vx) ∙ zero_of_equal _ _ (far ∙ sym near)

-- two steps along one direction have no area between them
pub parallel : (dx dy ux uy vx vy : ℤ) → ¬ ((dx ≡ pos 0) × (dy ≡ pos 0)) → dx *ℤ uy -ℤ dy *ℤ ux ≡ pos 0 → dx *ℤ vy -ℤ dy *ℤ vx ≡ pos 0 → ux *ℤ vy -ℤ uy *ℤ vx ≡ pos 0
parallel dx dy ux uy vx vy d hu hv =
    let eu = difference_zero (dx *ℤ uy) (dy *ℤ ux) hu in
    let ev = difference_zero (dx *ℤ vy) (dy *ℤ vx) hv in
    elim (zero_factor dx _ (scaled_across dx dy ux uy vx vy eu ev)) [
      | inl x ↦ elim (zero_factor dy _ (scaled_upward dx dy ux uy vx vy eu ev)) [ inl y ↦ absurd (d (x, y)) | inr e ↦ e ]
      | inr e ↦ e
    ]
