-- Points along one line: which lies between which, and on which side of them another point lies.
use Rattle.std.proofs.Common.{ℕ, List, ◌≡◌, ◌≢◌, ℤ, pos, ◌+ℤ◌, ◌-ℤ◌, ◌*ℤ◌, ◌<ℤ◌, ◌≤ℤ◌, ◌⊎◌, inl, inr, arith, sym, ◌∙◌, ap}
use Rattle.std.proofs.lemmas.Int.{ints}
use Rattle.std.proofs.Math.IntN.{*ℤ_comm}
use Rattle.plane.specs.declared.coordinates.Point.{Point}
use Rattle.plane.specs.Geometry.{point, area, scalar, orientation, AreOpposite, LiesBetween, IsBetween}
use Rattle.number_laws.proofs.Products.{mul_sub, mul_left_comm, zero_factor}
use Rattle.number_laws.proofs.Signs.{negative_or, products_agree, positive_positive, positive_negative, negative_positive, negative_negative, zero_left, zero_right, difference_zero}
use Rattle.plane.proofs.laws.Line.{same_point, collinear}
use Rattle.plane.proofs.laws.Opposite.{not_opposite_zero, zero_not_opposite, opposite_steps, negative_of_opposite}
use Rattle.plane.proofs.laws.Area.{area_first, area_cycle, area_swap, area_back, scalar_swap}

zero_back : (p q r : Point) → area q p r ≡ pos 0 → area p q r ≡ pos 0
zero_back p q r h = let e = area_back p q r in omega (arith, ints)

pub between_swap : (p q r : Point) → LiesBetween p q r → LiesBetween p r q
between_swap p q r h = (let e = area_cycle q p r in let f = area_cycle p r q in let g = area_back r p q in let k = area_swap p q r in let m = area_back p q r in omega (arith, ints, h.0), let e = scalar_swap p q r in omega (arith, ints, h.1))

scale_across : (ux uy rx ry bx by : ℤ) → ux *ℤ ry ≡ uy *ℤ rx → ux *ℤ (bx *ℤ ry -ℤ by *ℤ rx) ≡ rx *ℤ (bx *ℤ uy -ℤ by *ℤ ux)
scale_across ux uy rx ry bx by e =
    let far : ux *ℤ (bx *ℤ ry) ≡ rx *ℤ (bx *ℤ uy) = mul_left_comm ux bx ry ∙ ap (λ x. bx *ℤ x) (e ∙ *ℤ_comm uy rx) ∙ mul_left_comm bx rx uy in
    let near : ux *ℤ (by *ℤ rx) ≡ rx *ℤ (by *ℤ ux) = mul_left_comm ux by rx ∙ ap (λ x. by *ℤ x) (*ℤ_comm ux rx) ∙ mul_left_comm by rx ux in
    mul_sub ux (bx *ℤ ry) (by *ℤ rx) ∙ ap (λ x. x -ℤ ux *ℤ (by *ℤ rx)) far ∙ ap (λ x. rx *ℤ (bx *ℤ uy) -ℤ x) near ∙ sym (mul_sub rx (bx *ℤ uy) (by *ℤ ux))

scale_upward : (ux uy rx ry bx by : ℤ) → ux *ℤ ry ≡ uy *ℤ rx → uy *ℤ (bx *ℤ ry -ℤ by *ℤ rx) ≡ ry *ℤ (bx *ℤ uy -ℤ by *ℤ ux)
scale_upward ux uy rx ry bx by e =
    let far : uy *ℤ (bx *ℤ ry) ≡ ry *ℤ (bx *ℤ uy) = mul_left_comm uy bx ry ∙ ap (λ x. bx *ℤ x) (*ℤ_comm uy ry) ∙ mul_left_comm bx ry uy in
    let near : uy *ℤ (by *ℤ rx) ≡ ry *ℤ (by *ℤ ux) = mul_left_comm uy by rx ∙ ap (λ x. by *ℤ x) (sym e ∙ *ℤ_comm ux ry) ∙ mul_left_comm by ry ux in
    mul_sub uy (bx *ℤ ry) (by *ℤ rx) ∙ ap (λ x. x -ℤ uy *ℤ (by *ℤ rx)) far ∙ ap (λ x. ry *ℤ (bx *ℤ uy) -ℤ x) near ∙ sym (mul_sub ry (bx *ℤ uy) (by *ℤ ux))

-- scaled by numbers of opposite signs, a negative number equals a positive one alone
turned : (a c m n : ℤ) → AreOpposite a c → a *ℤ m ≡ c *ℤ n → m <ℤ pos 0 → pos 0 <ℤ n
turned a c m n (inl h) e hm = let p = negative_negative a m h.0 hm in elim (negative_or n) [
  | inl n< ↦ absurd (let q = positive_negative c n h.1 n< in omega (arith, ints))
  | inr rest ↦ elim rest [ inl z ↦ absurd (let q = zero_right c n z in omega (arith, ints)) | inr n> ↦ n> ]
]
turned a c m n (inr h) e hm = let p = positive_negative a m h.0 hm in elim (negative_or n) [
  | inl n< ↦ absurd (let q = negative_negative c n h.1 n< in omega (arith, ints))
  | inr rest ↦ elim rest [ inl z ↦ absurd (let q = zero_right c n z in omega (arith, ints)) | inr n> ↦ n> ]
]

-- the steps from p to q and r, where p lies between
steps_apart : (p q r : Point) → LiesBetween p q r → AreOpposite (q.x -ℤ p.x) (r.x -ℤ p.x) ⊎ ((q.x -ℤ p.x ≡ pos 0) × (r.x -ℤ p.x ≡ pos 0) × AreOpposite (q.y -ℤ p.y) (r.y -ℤ p.y))
unfolding area scalar
steps_apart p q r h = opposite_steps (q.x -ℤ p.x) (q.y -ℤ p.y) (r.x -ℤ p.x) (r.y -ℤ p.y) (zero_back p q r h.0) h.1

-- Where p lies between q and r, a line through p that leaves one of them strictly right leaves the other strictly left.
pub other_side : (p q r b : Point) → LiesBetween p q r → area p b r <ℤ pos 0 → pos 0 <ℤ area p b q
unfolding area scalar
other_side p q r b h right =
    let ux = q.x -ℤ p.x in let uy = q.y -ℤ p.y in let rx = r.x -ℤ p.x in let ry = r.y -ℤ p.y in let bx = b.x -ℤ p.x in let by = b.y -ℤ p.y in
    let line : ux *ℤ ry ≡ uy *ℤ rx = difference_zero (ux *ℤ ry) (uy *ℤ rx) (zero_back p q r h.0) in
    elim (steps_apart p q r h) [
      | inl o ↦ turned ux rx (bx *ℤ ry -ℤ by *ℤ rx) (bx *ℤ uy -ℤ by *ℤ ux) o (scale_across ux uy rx ry bx by line) right
      | inr o ↦ turned uy ry (bx *ℤ ry -ℤ by *ℤ rx) (bx *ℤ uy -ℤ by *ℤ ux) o.2 (scale_upward ux uy rx ry bx by line) right
    ]

negative_sum : (ux uy rx ry : ℤ) → ux *ℤ ry -ℤ uy *ℤ rx ≡ pos 0 → AreOpposite ux rx → (ux *ℤ rx +ℤ uy *ℤ ry) <ℤ pos 0
negative_sum ux uy rx ry line o =
    let across = negative_of_opposite ux rx o in
    let agree = products_agree ux rx uy ry line in
    elim (negative_or (uy *ℤ ry)) [
      | inl h ↦ omega (arith, ints)
      | inr rest ↦ elim rest [ inl z ↦ omega (arith, ints) | inr h ↦ absurd (let p = negative_positive (ux *ℤ rx) (uy *ℤ ry) across h in omega (arith, ints)) ]
    ]

-- in line, and between by the first coordinate
pub between_across : (p q r : Point) → area p q r ≡ pos 0 → AreOpposite (q.x -ℤ p.x) (r.x -ℤ p.x) → LiesBetween p q r
unfolding area scalar
between_across p q r line o = (zero_back q p r line, negative_sum (q.x -ℤ p.x) (q.y -ℤ p.y) (r.x -ℤ p.x) (r.y -ℤ p.y) line o)

-- in line upward, and between by the second coordinate
pub between_upward : (p q r : Point) → area p q r ≡ pos 0 → q.x -ℤ p.x ≡ pos 0 → AreOpposite (q.y -ℤ p.y) (r.y -ℤ p.y) → LiesBetween p q r
unfolding area scalar
between_upward p q r line z o = (
  zero_back q p r line,
  (let up = negative_of_opposite (q.y -ℤ p.y) (r.y -ℤ p.y) o in
      let e = zero_left (q.x -ℤ p.x) (r.x -ℤ p.x) z in omega (arith, ints)),
)

ordered : (a b : ℤ) → a ≢ b → (a <ℤ b) ⊎ (b <ℤ a)
ordered a b h = elim (negative_or (a -ℤ b)) [
  | inl l ↦ inl (omega (arith, ints))
  | inr rest ↦ elim rest [ inl z ↦ absurd (h (difference_zero a b z)) | inr g ↦ inr (omega (arith, ints)) ]
]

-- of three different numbers one is between the others
middle : (a b c : ℤ) → a ≢ b → a ≢ c → b ≢ c → AreOpposite (b -ℤ a) (c -ℤ a) ⊎ (AreOpposite (a -ℤ b) (c -ℤ b) ⊎ AreOpposite (a -ℤ c) (b -ℤ c))
middle a b c ab ac bc = elim (ordered a b ab) [
  | inl h ↦ elim (ordered a c ac) [
    | inl k ↦ elim (ordered b c bc) [ inl m ↦ inr (inl (inl (omega (arith, ints), omega (arith, ints)))) | inr m ↦ inr (inr (inl (omega (arith, ints), omega (arith, ints)))) ]
    | inr k ↦ inl (inr (omega (arith, ints), omega (arith, ints)))
  ]
  | inr h ↦ elim (ordered a c ac) [
    | inl k ↦ inl (inl (omega (arith, ints), omega (arith, ints)))
    | inr k ↦ elim (ordered b c bc) [ inl m ↦ inr (inr (inr (omega (arith, ints), omega (arith, ints)))) | inr m ↦ inr (inl (inr (omega (arith, ints), omega (arith, ints)))) ]
  ]
]

-- in line and level across means the same place, or level everywhere
stays_level : (p q r : Point) → area p q r ≡ pos 0 → q.x ≢ p.x → r.x ≡ p.x → r.y ≡ p.y
unfolding area
stays_level p q r line apart level =
    let rx : r.x -ℤ p.x ≡ pos 0 = omega (arith, ints) in
    let flat : (q.x -ℤ p.x) *ℤ (r.y -ℤ p.y) ≡ pos 0 = difference_zero _ _ line ∙ zero_right (q.y -ℤ p.y) (r.x -ℤ p.x) rx in
    elim (zero_factor (q.x -ℤ p.x) (r.y -ℤ p.y) flat) [ inl z ↦ absurd (apart (difference_zero q.x p.x z)) | inr z ↦ difference_zero r.y p.y z ]

-- where p and q stand on a vertical line, a point in line with them stands on it too
stays_upright : (p q r : Point) → area p q r ≡ pos 0 → q.x ≡ p.x → q.y ≢ p.y → r.x ≡ p.x
unfolding area
stays_upright p q r line level apart =
    let qx : q.x -ℤ p.x ≡ pos 0 = omega (arith, ints) in
    let flat : (q.y -ℤ p.y) *ℤ (r.x -ℤ p.x) ≡ pos 0 = sym (difference_zero _ _ line) ∙ zero_left (q.x -ℤ p.x) (r.y -ℤ p.y) qx in
    elim (zero_factor (q.y -ℤ p.y) (r.x -ℤ p.x) flat) [ inl z ↦ absurd (apart (difference_zero q.y p.y z)) | inr z ↦ difference_zero r.x p.x z ]

same_or_not : (a b : ℤ) → (a ≡ b) ⊎ (a ≢ b)
same_or_not a b = elim (negative_or (a -ℤ b)) [
  | inl l ↦ inr (λ e. omega (arith, ints))
  | inr rest ↦ elim rest [ inl z ↦ inl (difference_zero a b z) | inr g ↦ inr (λ e. omega (arith, ints)) ]
]

-- Of three different points in line, one lies between the others.
pub one_between : (p q r : Point) → p ≢ q → p ≢ r → q ≢ r → area p q r ≡ pos 0 → LiesBetween p q r ⊎ (LiesBetween q p r ⊎ LiesBetween r p q)
one_between p q r pq pr qr line =
    let at_q : area q p r ≡ pos 0 = (let e = area_back p q r in omega (arith, ints)) in
    let at_r : area r p q ≡ pos 0 = (let e = area_cycle r p q in omega (arith, ints)) in
    elim (same_or_not q.x p.x) [
      | inl level ↦
          (let apart : q.y ≢ p.y = λ e. pq (same_point p q (sym level) (sym e)) in
          let upright = stays_upright p q r line level apart in
          elim (middle p.y q.y r.y (λ e. apart (sym e)) (λ e. pr (same_point p r (sym upright) e)) (λ e. qr (same_point q r (level ∙ sym upright) e))) [
            | inl o ↦ inl (between_upward p q r line (omega (arith, ints)) o)
            | inr rest ↦ elim rest [ inl o ↦ inr (inl (between_upward q p r at_q (omega (arith, ints)) o)) | inr o ↦ inr (inr (between_upward r p q at_r (omega (arith, ints)) o)) ]
          ])
      | inr apart ↦
          (let far : p.x ≢ r.x = λ e. pr (same_point p r e (sym (stays_level p q r line apart (sym e)))) in
          let near : q.x ≢ r.x = λ e. qr (same_point q r e (sym (stays_level q p r at_q (λ f. apart (sym f)) (sym e)))) in
          elim (middle p.x q.x r.x (λ e. apart (sym e)) far near) [
            | inl o ↦ inl (between_across p q r line o)
            | inr rest ↦ elim rest [ inl o ↦ inr (inl (between_across q p r at_q o)) | inr o ↦ inr (inr (between_across r p q at_r o)) ]
          ])
    ]

apart_of_between : (p q r : Point) → LiesBetween p q r → p ≢ r
apart_of_between p q r h e =
    elim (steps_apart p q r h) [
      | inl o ↦ (let f = ap (λ (a : Point). a.x) e in elim o [ inl k ↦ omega (arith, ints, k.1, f) | inr k ↦ omega (arith, ints, k.1, f) ])
      | inr o ↦ (let f = ap (λ (a : Point). a.y) e in elim o.2 [ inl k ↦ omega (arith, ints, k.1, f) | inr k ↦ omega (arith, ints, k.1, f) ])
    ]

beyond_across : (w v r b : ℤ) → AreOpposite (w -ℤ v) (r -ℤ v) → AreOpposite (v -ℤ r) (b -ℤ r) → AreOpposite (w -ℤ v) (b -ℤ v)
beyond_across w v r b (inl h) (inl k) = inl (h.0, omega (arith, ints, h.1, k.0, k.1))
beyond_across w v r b (inl h) (inr k) = absurd (omega (arith, ints, h.1, k.0))
beyond_across w v r b (inr h) (inl k) = absurd (omega (arith, ints, h.1, k.0))
beyond_across w v r b (inr h) (inr k) = inr (h.0, omega (arith, ints, h.1, k.0, k.1))

-- Where v lies between w and r, and r between v and b, v lies between w and b.
pub between_beyond : (v w r b : Point) → LiesBetween v w r → LiesBetween r v b → LiesBetween v w b
between_beyond v w r b h k =
    let vr = apart_of_between v w r h in
    let line_w : area v r w ≡ pos 0 = (let e = zero_back v w r h.0 in let f = area_swap v r w in omega (arith, ints)) in
    let line_b : area v r b ≡ pos 0 = k.0 in
    let line = collinear v r v w b vr (area_first v r) line_w line_b in
    elim (steps_apart v w r h) [
      | inl o ↦ elim (steps_apart r v b k) [
        | inl m ↦ between_across v w b line (beyond_across w.x v.x r.x b.x o m)
        | inr m ↦ absurd (zero_not_opposite (w.x -ℤ v.x) (r.x -ℤ v.x) (omega (arith, ints, m.0)) o)
      ]
      | inr o ↦ elim (steps_apart r v b k) [
        | inl m ↦ absurd (not_opposite_zero (v.x -ℤ r.x) (b.x -ℤ r.x) (omega (arith, ints, o.1)) m)
        | inr m ↦ between_upward v w b line o.0 (beyond_across w.y v.y r.y b.y o.2 m.2)
      ]
    ]

turned_back : (a c m n : ℤ) → AreOpposite a c → a *ℤ m ≡ c *ℤ n → pos 0 <ℤ m → n <ℤ pos 0
turned_back a c m n o e hm = elim (negative_or n) [
  | inl h ↦ h
  | inr rest ↦ absurd (elim rest [
    | inl z ↦ elim o [
      | inl h ↦ (let p = negative_positive a m h.0 hm in let q = zero_right c n z in omega (arith, ints))
      | inr h ↦ (let p = positive_positive a m h.0 hm in let q = zero_right c n z in omega (arith, ints))
    ]
    | inr h ↦ elim o [
      | inl k ↦ (let p = negative_positive a m k.0 hm in let q = positive_positive c n k.1 h in omega (arith, ints))
      | inr k ↦ (let p = positive_positive a m k.0 hm in let q = negative_positive c n k.1 h in omega (arith, ints))
    ]
  ])
]

-- The same, the other way round.
pub other_side_right : (p q r b : Point) → LiesBetween p q r → pos 0 <ℤ area p b r → area p b q <ℤ pos 0
unfolding area scalar
other_side_right p q r b h left =
    let ux = q.x -ℤ p.x in let uy = q.y -ℤ p.y in let rx = r.x -ℤ p.x in let ry = r.y -ℤ p.y in let bx = b.x -ℤ p.x in let by = b.y -ℤ p.y in
    let line : ux *ℤ ry ≡ uy *ℤ rx = difference_zero (ux *ℤ ry) (uy *ℤ rx) (zero_back p q r h.0) in
    elim (steps_apart p q r h) [
      | inl o ↦ turned_back ux rx (bx *ℤ ry -ℤ by *ℤ rx) (bx *ℤ uy -ℤ by *ℤ ux) o (scale_across ux uy rx ry bx by line) left
      | inr o ↦ turned_back uy ry (bx *ℤ ry -ℤ by *ℤ rx) (bx *ℤ uy -ℤ by *ℤ ux) o.2 (scale_upward ux uy rx ry bx by line) left
    ]

-- a number is between two others, or equals one
abbrev pub IsInRange : (a b c : ℤ) → Type 0
IsInRange a b c = ((b ≤ℤ a) × (a ≤ℤ c)) ⊎ ((c ≤ℤ a) × (a ≤ℤ b))

in_range_of_product : (p q r : ℤ) → ((q -ℤ p) *ℤ (r -ℤ p)) ≤ℤ pos 0 → IsInRange p q r
in_range_of_product p q r h = elim (negative_or (q -ℤ p)) [
  | inl a ↦ elim (negative_or (r -ℤ p)) [
    | inl b ↦ absurd (let k = negative_negative (q -ℤ p) (r -ℤ p) a b in omega (arith, ints))
    | inr rest ↦ inl (omega (arith, ints), elim rest [ inl z ↦ omega (arith, ints) | inr g ↦ omega (arith, ints) ])
  ]
  | inr rest ↦ elim rest [
    | inl z ↦ elim (negative_or (r -ℤ p)) [ inl b ↦ inr (omega (arith, ints), omega (arith, ints)) | inr other ↦ inl (omega (arith, ints), elim other [ inl y ↦ omega (arith, ints) | inr g ↦ omega (arith, ints) ]) ]
    | inr a ↦ elim (negative_or (r -ℤ p)) [
      | inl b ↦ inr (omega (arith, ints), omega (arith, ints))
      | inr other ↦ elim other [ inl y ↦ inr (omega (arith, ints), omega (arith, ints)) | inr b ↦ absurd (let k = positive_positive (q -ℤ p) (r -ℤ p) a b in omega (arith, ints)) ]
    ]
  ]
]

zero_sign : (a b c : ℤ) → a ≡ pos 0 → (a *ℤ b) ≤ℤ pos 0
zero_sign a b c e = let z = zero_left a b e in omega (arith, ints)

-- what lies between two points is in the ranges of their coordinates
pub range_across : (p q r : Point) → LiesBetween p q r → IsInRange p.x q.x r.x
range_across p q r h = in_range_of_product p.x q.x r.x (elim (steps_apart p q r h) [
  | inl o ↦ (let k = negative_of_opposite (q.x -ℤ p.x) (r.x -ℤ p.x) o in omega (arith, ints))
  | inr o ↦ zero_sign (q.x -ℤ p.x) (r.x -ℤ p.x) (pos 0) o.0
])

pub range_upward : (p q r : Point) → LiesBetween p q r → IsInRange p.y q.y r.y
unfolding area
range_upward p q r h = in_range_of_product p.y q.y r.y (elim (steps_apart p q r h) [
  | inl o ↦ (let k = negative_of_opposite (q.x -ℤ p.x) (r.x -ℤ p.x) o in
      let agree = products_agree (q.x -ℤ p.x) (r.x -ℤ p.x) (q.y -ℤ p.y) (r.y -ℤ p.y) (zero_back p q r h.0) in
      elim (negative_or ((q.y -ℤ p.y) *ℤ (r.y -ℤ p.y))) [
        | inl n ↦ omega (arith, ints)
        | inr rest ↦ elim rest [ inl z ↦ omega (arith, ints) | inr g ↦ absurd (let m = negative_positive ((q.x -ℤ p.x) *ℤ (r.x -ℤ p.x)) ((q.y -ℤ p.y) *ℤ (r.y -ℤ p.y)) k g in omega (arith, ints)) ]
      ])
  | inr o ↦ (let k = negative_of_opposite (q.y -ℤ p.y) (r.y -ℤ p.y) o.2 in omega (arith, ints))
])

pub between_or_not : (S : List Point) (v w b : ℕ) → IsBetween S v w b ⊎ ¬ IsBetween S v w b
between_or_not S v w b = elim (zero_or (orientation S w v b)) [
  | inl e ↦ elim (negative_or (scalar (point S v) (point S w) (point S b))) [
    | inl h ↦ inl (e, h)
    | inr rest ↦ inr (λ on. elim rest [ inl z ↦ omega (arith, ints, on.1, z) | inr z ↦ omega (arith, ints, on.1, z) ])
  ]
  | inr ne ↦ inr (λ on. ne on.0)
]
  where
    zero_or : (z : ℤ) → (z ≡ pos 0) ⊎ (z ≢ pos 0)
    zero_or z = elim (negative_or z) [ inl h ↦ inr (omega (arith, ints)) | inr rest ↦ elim rest [ inl e ↦ inl e | inr h ↦ inr (omega (arith, ints)) ] ]
