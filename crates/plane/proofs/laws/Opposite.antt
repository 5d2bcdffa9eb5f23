-- Numbers of opposite signs: factors, and steps along one line.
use Rattle.std.proofs.Common.{◌≡◌, ℤ, pos, ◌+ℤ◌, ◌-ℤ◌, ◌*ℤ◌, neg_ℤ, ◌<ℤ◌, ◌⊎◌, inl, inr, arith, sym, ◌∙◌, ap}
use Rattle.std.proofs.lemmas.Int.{ints}
use Rattle.plane.specs.Geometry.{AreOpposite}
use Rattle.number_laws.proofs.Products.{zero_factor}
use Rattle.number_laws.proofs.Signs.{negative_or, positive_positive, positive_negative, negative_positive, negative_negative, zero_left, zero_right, difference_zero, products_agree}
use Rattle.std.proofs.Math.IntN.{*ℤ_comm, zero-*ℤ}

-- a product's sign is told by its factors' signs
pub opposite_factors : (a b : ℤ) → (a *ℤ b) <ℤ pos 0 → AreOpposite a b
opposite_factors a b h =
    elim (negative_or a) [
      | inl a< ↦ elim (negative_or b) [
        | inl b< ↦ absurd (let p = negative_negative a b a< b< in omega (arith, ints))
        | inr rest ↦ elim rest [ inl b0 ↦ absurd (let e : a *ℤ b ≡ pos 0 = ap (λ x. a *ℤ x) b0 ∙ (*ℤ_comm a (pos 0) ∙ zero-*ℤ a) in omega (arith, ints)) | inr b> ↦ inl (a<, b>) ]
      ]
      | inr rest ↦ elim rest [
        | inl a0 ↦ absurd (let e : a *ℤ b ≡ pos 0 = ap (λ x. x *ℤ b) a0 ∙ zero-*ℤ b in omega (arith, ints))
        | inr a> ↦ elim (negative_or b) [
          | inl b< ↦ inr (a>, b<)
          | inr rest ↦ elim rest [ inl b0 ↦ absurd (let e : a *ℤ b ≡ pos 0 = ap (λ x. a *ℤ x) b0 ∙ (*ℤ_comm a (pos 0) ∙ zero-*ℤ a) in omega (arith, ints)) | inr b> ↦ absurd (let p = positive_positive a b a> b> in omega (arith, ints)) ]
        ]
      ]
    ]

pub negative_of_opposite : (a b : ℤ) → AreOpposite a b → (a *ℤ b) <ℤ pos 0
negative_of_opposite a b (inl h) = negative_positive a b h.0 h.1
negative_of_opposite a b (inr h) = positive_negative a b h.0 h.1

-- Two steps along one line have opposite directions: across, or, where neither goes across, upward.
pub opposite_steps : (ux uy rx ry : ℤ) → ux *ℤ ry -ℤ uy *ℤ rx ≡ pos 0 → (ux *ℤ rx +ℤ uy *ℤ ry) <ℤ pos 0 → AreOpposite ux rx ⊎ ((ux ≡ pos 0) × (rx ≡ pos 0) × AreOpposite uy ry)
opposite_steps ux uy rx ry line away =
    let agree = products_agree ux rx uy ry line in
    let equal = difference_zero (ux *ℤ ry) (uy *ℤ rx) line in
    elim (negative_or (ux *ℤ rx)) [
      | inl h ↦ inl (opposite_factors ux rx h)
      | inr rest ↦ elim rest [
        | inl e ↦ (let up : (uy *ℤ ry) <ℤ pos 0 = omega (arith, ints) in
            let turned = opposite_factors uy ry up in
            let none_up : uy ≡ pos 0 → ⊥ = λ z. (let w = zero_left uy ry z in omega (arith, ints)) in
            let none_far : ry ≡ pos 0 → ⊥ = λ z. (let w = zero_right uy ry z in omega (arith, ints)) in
            elim (zero_factor ux rx e) [
              | inl z ↦ elim (zero_factor uy rx (sym equal ∙ zero_left ux ry z)) [ inl y ↦ absurd (none_up y) | inr y ↦ inr (z, y, turned) ]
              | inr z ↦ elim (zero_factor ux ry (equal ∙ zero_right uy rx z)) [ inl y ↦ inr (y, z, turned) | inr y ↦ absurd (none_far y) ]
            ])
        | inr h ↦ absurd (elim (negative_or (uy *ℤ ry)) [
          | inl n ↦ (let p = positive_negative (ux *ℤ rx) (uy *ℤ ry) h n in omega (arith, ints))
          | inr other ↦ elim other [ inl z ↦ omega (arith, ints) | inr y ↦ omega (arith, ints) ]
        ])
      ]
    ]

-- numbers of opposite signs, each turned round
pub opposite_neg : (y z y' z' : ℤ) → y' ≡ neg_ℤ y → z' ≡ neg_ℤ z → AreOpposite y z → AreOpposite y' z'
opposite_neg y z y' z' ey ez (inl h) = inr (omega (arith, ints, h.0, ey), omega (arith, ints, h.1, ez))
opposite_neg y z y' z' ey ez (inr h) = inl (omega (arith, ints, h.0, ey), omega (arith, ints, h.1, ez))

pub opposite_swap : (y z : ℤ) → AreOpposite y z → AreOpposite z y
opposite_swap y z (inl h) = inr (h.1, h.0)
opposite_swap y z (inr h) = inl (h.1, h.0)

pub not_opposite_zero : (y z : ℤ) → y ≡ pos 0 → ¬ AreOpposite y z
not_opposite_zero y z e (inl h) = omega (arith, ints, h.0, e)
not_opposite_zero y z e (inr h) = omega (arith, ints, h.0, e)

pub zero_not_opposite : (y z : ℤ) → z ≡ pos 0 → ¬ AreOpposite y z
zero_not_opposite y z e h = not_opposite_zero z y e (opposite_swap y z h)

pub opposite_same : (x y v w : ℤ) → x ≡ v → y ≡ w → AreOpposite x y → AreOpposite v w
opposite_same x y v w e f (inl h) = inl (omega (arith, ints, h.0), omega (arith, ints, h.1))
opposite_same x y v w e f (inr h) = inr (omega (arith, ints, h.0), omega (arith, ints, h.1))
