-- Segments on two sides of a line don't cross.
use Rattle.std.proofs.Common.{◌≡◌, ◌≢◌, ℤ, pos, ◌+ℤ◌, ◌-ℤ◌, ◌*ℤ◌, neg_ℤ, arith, sym, ◌∙◌, ap, inl, inr, ◌⊎◌}
use Rattle.std.specs.Prelude.{◌<ℤ◌, ◌≤ℤ◌}
use Rattle.std.proofs.Math.IntN.{*ℤ_comm}
use Rattle.std.proofs.lemmas.Int.{ints}
use Rattle.plane.specs.declared.coordinates.Point.{Point}
use Rattle.plane.specs.Geometry.{area, AreOpposite}
use Rattle.number_laws.proofs.Products.{neg_mul, mul_add, mul_neg, mul_sub, sub_mul, add_mul, mul_left_comm}
use Rattle.number_laws.proofs.Crosses.{cross, three_across}
use Rattle.number_laws.proofs.Signs.{mul_weak, positive_positive, by_sign, zero_left}
use Rattle.plane.proofs.laws.Area.{area_back, area_cycle, area_first, area_second}
use Rattle.plane_laws.specs.Order.{IsBefore}
use Rattle.plane_laws.proofs.Between.{by_order}
use Rattle.plane_laws.proofs.Orientations.{det, area_sides, area_four, all_in_line}
use Rattle.plane.proofs.laws.Opposite.{not_opposite_zero, opposite_same}
use Rattle.plane.proofs.laws.Line.{same_point}
use Rattle.number_laws.proofs.Sums.{positive_low}

-- two steps' products with a third: across, and upward
across : (a b c : Point) → det b c *ℤ a.x +ℤ det a b *ℤ c.x ≡ det a c *ℤ b.x
unfolding det
across a b c =
    omega (arith, ints, three_across a.x a.y b.x b.y c.x c.y, *ℤ_comm (cross b.x b.y c.x c.y) a.x, *ℤ_comm (cross a.x a.y b.x b.y) c.x, *ℤ_comm (cross a.x a.y c.x c.y) b.x)

turned_cross : (ax ay bx by : ℤ) → cross ay ax by bx ≡ neg_ℤ (cross ax ay bx by)
turned_cross ax ay bx by = omega (arith, ints)

upward : (a b c : Point) → det b c *ℤ a.y +ℤ det a b *ℤ c.y ≡ det a c *ℤ b.y
unfolding det
upward a b c =
    omega (
      arith,
      ints,
      three_across a.y a.x b.y b.x c.y c.x,
      ap (λ z. b.y *ℤ z) (turned_cross a.x a.y c.x c.y),
      mul_neg b.y (cross a.x a.y c.x c.y),
      *ℤ_comm b.y (cross a.x a.y c.x c.y),
      ap (λ z. a.y *ℤ z) (turned_cross b.x b.y c.x c.y),
      mul_neg a.y (cross b.x b.y c.x c.y),
      *ℤ_comm a.y (cross b.x b.y c.x c.y),
      ap (λ z. c.y *ℤ z) (turned_cross a.x a.y b.x b.y),
      mul_neg c.y (cross a.x a.y b.x b.y),
      *ℤ_comm c.y (cross a.x a.y b.x b.y),
    )

-- a product of the area, by the determinants
spread : (p q r : Point) (z : ℤ) → area p q r *ℤ z ≡ (det p q *ℤ z +ℤ det q r *ℤ z) -ℤ det p r *ℤ z
spread p q r z = ap (λ x. x *ℤ z) (area_sides p q r) ∙ sub_mul (det p q +ℤ det q r) (det p r) z ∙ ap (λ x. x -ℤ det p r *ℤ z) (add_mul (det p q) (det q r) z)

-- the areas of four points weigh their coordinates to nothing
weigh_x : (a b c d : Point) → area b c d *ℤ a.x +ℤ area a b d *ℤ c.x ≡ area a c d *ℤ b.x +ℤ area a b c *ℤ d.x
weigh_x a b c d =
    omega (arith, ints, spread b c d a.x, spread a b d c.x, spread a c d b.x, spread a b c d.x, across a b c, across a c d, across a b d, across b c d)

weigh_y : (a b c d : Point) → area b c d *ℤ a.y +ℤ area a b d *ℤ c.y ≡ area a c d *ℤ b.y +ℤ area a b c *ℤ d.y
weigh_y a b c d =
    omega (arith, ints, spread b c d a.y, spread a b d c.y, spread a c d b.y, spread a b c d.y, upward a b c, upward a c d, upward a b d, upward b c d)

-- the area over a fixed side, as a sum
over : (p q r : Point) → area p q r ≡ ((q.x -ℤ p.x) *ℤ r.y -ℤ (q.y -ℤ p.y) *ℤ r.x) -ℤ ((q.x -ℤ p.x) *ℤ p.y -ℤ (q.y -ℤ p.y) *ℤ p.x)
unfolding area
over p q r = omega (arith, ints, mul_sub (q.x -ℤ p.x) r.y p.y, mul_sub (q.y -ℤ p.y) r.x p.x)

scaled : (k f g e dx dy x y : ℤ) → f ≡ (dx *ℤ y -ℤ dy *ℤ x) -ℤ e → k *ℤ f ≡ (dx *ℤ (k *ℤ y) -ℤ dy *ℤ (k *ℤ x)) -ℤ k *ℤ e
scaled k f g e dx dy x y h =
    ap (λ z. k *ℤ z) h ∙ mul_sub k (dx *ℤ y -ℤ dy *ℤ x) e ∙ ap (λ z. z -ℤ k *ℤ e) (mul_sub k (dx *ℤ y) (dy *ℤ x))
    ∙ ap (λ z. (z -ℤ k *ℤ (dy *ℤ x)) -ℤ k *ℤ e) (mul_left_comm k dx y) ∙ ap (λ z. (dx *ℤ (k *ℤ y) -ℤ z) -ℤ k *ℤ e) (mul_left_comm k dy x)

combined : (f g h k x1 x2 x3 x4 y1 y2 y3 y4 e1 e2 e3 e4 : ℤ) → f ≡ (x1 -ℤ y1) -ℤ e1 → g ≡ (x2 -ℤ y2) -ℤ e2 → h ≡ (x3 -ℤ y3) -ℤ e3 → k ≡ (x4 -ℤ y4) -ℤ e4
    → x1 +ℤ x2 ≡ x3 +ℤ x4 → y1 +ℤ y2 ≡ y3 +ℤ y4 → e1 +ℤ e2 ≡ e3 +ℤ e4 → f +ℤ g ≡ h +ℤ k
combined f g h k x1 x2 x3 x4 y1 y2 y3 y4 e1 e2 e3 e4 hf hg hh hk hx hy he = omega (arith, ints)

-- four numbers that weigh two coordinates and one another to nothing weigh the sum of both to nothing
weighed : (A B C D fa fb fc fd e dx dy ax ay bx by cx cy dx2 dy2 : ℤ) → B +ℤ D ≡ A +ℤ C
    → B *ℤ ax +ℤ D *ℤ cx ≡ A *ℤ bx +ℤ C *ℤ dx2 → B *ℤ ay +ℤ D *ℤ cy ≡ A *ℤ by +ℤ C *ℤ dy2
    → fa ≡ (dx *ℤ ay -ℤ dy *ℤ ax) -ℤ e → fb ≡ (dx *ℤ by -ℤ dy *ℤ bx) -ℤ e → fc ≡ (dx *ℤ cy -ℤ dy *ℤ cx) -ℤ e → fd ≡ (dx *ℤ dy2 -ℤ dy *ℤ dx2) -ℤ e
    → B *ℤ fa +ℤ D *ℤ fc ≡ A *ℤ fb +ℤ C *ℤ fd
weighed A B C D fa fb fc fd e dx dy ax ay bx by cx cy dx2 dy2 hs hx hy ea eb ec ed =
    combined (B *ℤ fa) (D *ℤ fc) (A *ℤ fb) (C *ℤ fd)
    (dx *ℤ (B *ℤ ay)) (dx *ℤ (D *ℤ cy)) (dx *ℤ (A *ℤ by)) (dx *ℤ (C *ℤ dy2)) (dy *ℤ (B *ℤ ax)) (dy *ℤ (D *ℤ cx)) (dy *ℤ (A *ℤ bx)) (dy *ℤ (C *ℤ dx2))
    (B *ℤ e) (D *ℤ e) (A *ℤ e) (C *ℤ e)
    (scaled B fa fa e dx dy ax ay ea) (scaled D fc fc e dx dy cx cy ec) (scaled A fb fb e dx dy bx by eb) (scaled C fd fd e dx dy dx2 dy2 ed)
    (sym (mul_add dx (B *ℤ ay) (D *ℤ cy)) ∙ ap (λ z. dx *ℤ z) hy ∙ mul_add dx (A *ℤ by) (C *ℤ dy2))
    (sym (mul_add dy (B *ℤ ax) (D *ℤ cx)) ∙ ap (λ z. dy *ℤ z) hx ∙ mul_add dy (A *ℤ bx) (C *ℤ dx2))
    (sym (add_mul B D e) ∙ ap (λ z. z *ℤ e) hs ∙ add_mul A C e)

-- the areas of four points weigh their areas over one side to nothing
pub weigh : (p q a b c d : Point) → area b c d *ℤ area p q a +ℤ area a b d *ℤ area p q c ≡ area a c d *ℤ area p q b +ℤ area a b c *ℤ area p q d
weigh p q a b c d =
    weighed (area a c d) (area b c d) (area a b c) (area a b d) (area p q a) (area p q b) (area p q c) (area p q d)
    ((q.x -ℤ p.x) *ℤ p.y -ℤ (q.y -ℤ p.y) *ℤ p.x) (q.x -ℤ p.x) (q.y -ℤ p.y) a.x a.y b.x b.y c.x c.y d.x d.y
    (omega (arith, ints, area_four a b c d)) (weigh_x a b c d) (weigh_y a b c d) (over p q a) (over p q b) (over p q c) (over p q d)

zero_of_scaled : (k f : ℤ) → pos 0 <ℤ k → f ≤ℤ pos 0 → pos 0 ≤ℤ (k *ℤ f) → f ≡ pos 0
zero_of_scaled k f hk hf h = by_sign f (λ p. absurd (omega (arith, ints))) (λ p. p)
    (λ p. absurd (omega (arith, ints, positive_positive k (neg_ℤ f) hk (omega (arith, ints)), mul_neg k f)))

neg_zero : (x : ℤ) → neg_ℤ x ≡ pos 0 → x ≡ pos 0
neg_zero x h = omega (arith, ints)

-- two sums of products, one of numbers up to 0 and one of numbers from 0, are equal where all are 0
balance : (k l m n a b c d : ℤ) → pos 0 <ℤ k → pos 0 <ℤ l → pos 0 <ℤ m → pos 0 <ℤ n → a ≤ℤ pos 0 → b ≤ℤ pos 0 → pos 0 ≤ℤ c → pos 0 ≤ℤ d
    → k *ℤ a +ℤ l *ℤ b ≡ m *ℤ c +ℤ n *ℤ d → (a ≡ pos 0) × (b ≡ pos 0) × (c ≡ pos 0) × (d ≡ pos 0)
balance k l m n a b c d hk hl hm hn ha hb hc hd h =
    let ka : (k *ℤ a) ≤ℤ pos 0 = positive_low k a hk ha in
    let lb : (l *ℤ b) ≤ℤ pos 0 = positive_low l b hl hb in
    let mc : pos 0 ≤ℤ (m *ℤ c) = mul_weak m c (omega (arith, ints)) hc in
    let nd : pos 0 ≤ℤ (n *ℤ d) = mul_weak n d (omega (arith, ints)) hd in (
      zero_of_scaled k a hk ha (omega (arith, ints)),
      zero_of_scaled l b hl hb (omega (arith, ints)),
      neg_zero c (zero_of_scaled m (neg_ℤ c) hm (omega (arith, ints)) (omega (arith, ints, mul_neg m c))),
      neg_zero d (zero_of_scaled n (neg_ℤ d) hn (omega (arith, ints)) (omega (arith, ints, mul_neg n d))),
    )

-- the two cases of opposite signs
crossed_first : (A B C D a b c d : ℤ) → B +ℤ D ≡ A +ℤ C → B *ℤ a +ℤ D *ℤ c ≡ A *ℤ b +ℤ C *ℤ d → A <ℤ pos 0 → pos 0 <ℤ B → AreOpposite C D
    → a ≤ℤ pos 0 → b ≤ℤ pos 0 → pos 0 ≤ℤ c → pos 0 ≤ℤ d → (a ≡ pos 0) × (b ≡ pos 0) × (c ≡ pos 0) × (d ≡ pos 0)
crossed_first A B C D a b c d hs h hA hB (inl o) ha hb hc hd = absurd (omega (arith, ints, o.0, o.1))
crossed_first A B C D a b c d hs h hA hB (inr o) ha hb hc hd =
    balance B (neg_ℤ A) (neg_ℤ D) C a b c d hB (omega (arith, ints)) (omega (arith, ints, o.1)) o.0 ha hb hc hd
    (omega (arith, ints, neg_mul A b, neg_mul D c))

crossed_second : (A B C D a b c d : ℤ) → B +ℤ D ≡ A +ℤ C → B *ℤ a +ℤ D *ℤ c ≡ A *ℤ b +ℤ C *ℤ d → pos 0 <ℤ A → B <ℤ pos 0 → AreOpposite C D
    → a ≤ℤ pos 0 → b ≤ℤ pos 0 → pos 0 ≤ℤ c → pos 0 ≤ℤ d → (a ≡ pos 0) × (b ≡ pos 0) × (c ≡ pos 0) × (d ≡ pos 0)
crossed_second A B C D a b c d hs h hA hB (inr o) ha hb hc hd = absurd (omega (arith, ints, o.0, o.1))
crossed_second A B C D a b c d hs h hA hB (inl o) ha hb hc hd =
    balance (neg_ℤ B) A D (neg_ℤ C) a b c d (omega (arith, ints)) hA o.1 (omega (arith, ints, o.0)) ha hb hc hd
    (omega (arith, ints, neg_mul B a, neg_mul C d))

crossed : (A B C D a b c d : ℤ) → B +ℤ D ≡ A +ℤ C → B *ℤ a +ℤ D *ℤ c ≡ A *ℤ b +ℤ C *ℤ d → AreOpposite A B → AreOpposite C D
    → a ≤ℤ pos 0 → b ≤ℤ pos 0 → pos 0 ≤ℤ c → pos 0 ≤ℤ d → (a ≡ pos 0) × (b ≡ pos 0) × (c ≡ pos 0) × (d ≡ pos 0)
crossed A B C D a b c d hs h (inl u) o = crossed_first A B C D a b c d hs h u.0 u.1 o
crossed A B C D a b c d hs h (inr u) o = crossed_second A B C D a b c d hs h u.0 u.1 o

pub line : (p q a b c : Point) → IsBefore p q ⊎ IsBefore q p → area p q a ≡ pos 0 → area p q b ≡ pos 0 → area p q c ≡ pos 0 → area a b c ≡ pos 0
line p q a b c (inl h) ha hb hc = all_in_line p q a b c h ha hb hc
line p q a b c (inr h) ha hb hc =
    all_in_line q p a b c h (omega (arith, ints, area_back p q a)) (omega (arith, ints, area_back p q b)) (omega (arith, ints, area_back p q c))

-- two segments, one on each closed side of a line
pub on_two_sides : (p q a b c d : Point) → IsBefore p q ⊎ IsBefore q p → area p q a ≤ℤ pos 0 → area p q b ≤ℤ pos 0 → pos 0 ≤ℤ area p q c → pos 0 ≤ℤ area p q d
    → ¬ (AreOpposite (area a b c) (area a b d) × AreOpposite (area c d a) (area c d b))
on_two_sides p q a b c d hpq ha hb hc hd h =
    let A : area c d a ≡ area a c d = sym (area_cycle a c d) in
    let B : area c d b ≡ area b c d = sym (area_cycle b c d) in
    let z = crossed (area a c d) (area b c d) (area a b c) (area a b d) (area p q a) (area p q b) (area p q c) (area p q d)
    (omega (arith, ints, area_four a b c d)) (weigh p q a b c d) (opposite_same (area c d a) (area c d b) (area a c d) (area b c d) A B h.1) h.0 ha hb hc hd in
    not_opposite_zero (area a b c) (area a b d) (line p q a b c hpq z.0 z.1 z.2) h.0

-- a point right of a side isn't where the side's ends are equal
side_ends : (p q z : Point) → area p q z <ℤ pos 0 → p ≢ q
unfolding area
side_ends p q z h e =
    let ex : p.x ≡ q.x = ap (λ (t : Point). t.x) e in
    let ey : p.y ≡ q.y = ap (λ (t : Point). t.y) e in
    omega (arith, ints, zero_left (q.x -ℤ p.x) (z.y -ℤ p.y) (omega (arith, ints)), zero_left (q.y -ℤ p.y) (z.x -ℤ p.x) (omega (arith, ints)))

-- one of two different points comes before the other
pub one_first : (p q : Point) → p ≢ q → IsBefore p q ⊎ IsBefore q p
one_first p q h = by_order p q (λ g. inl g) (λ ex ey. absurd (h (same_point p q ex ey))) (λ g. inr g)

zero_weakly : (x : ℤ) → x ≡ pos 0 → x ≤ℤ pos 0
zero_weakly x h = omega (arith, ints)

weakly : (x : ℤ) → x <ℤ pos 0 → x ≤ℤ pos 0
weakly x h = omega (arith, ints)

pub beyond_first : (p q z k l : Point) → area p q z <ℤ pos 0 → pos 0 ≤ℤ area p q k → pos 0 ≤ℤ area p q l
    → ¬ (AreOpposite (area p z k) (area p z l) × AreOpposite (area k l p) (area k l z))
beyond_first p q z k l hz hk hl =
    on_two_sides p q p z k l (one_first p q (side_ends p q z hz)) (zero_weakly (area p q p) (area_first p q)) (weakly (area p q z) hz) hk hl

pub beyond_second : (p q z k l : Point) → area p q z <ℤ pos 0 → pos 0 ≤ℤ area p q k → pos 0 ≤ℤ area p q l
    → ¬ (AreOpposite (area q z k) (area q z l) × AreOpposite (area k l q) (area k l z))
beyond_second p q z k l hz hk hl =
    on_two_sides p q q z k l (one_first p q (side_ends p q z hz)) (zero_weakly (area p q q) (area_second p q)) (weakly (area p q z) hz) hk hl
