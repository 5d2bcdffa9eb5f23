-- Four points: how their areas depend on each other, and that the ranges of crossing segments meet.
use Rattle.std.proofs.Common.{◌≡◌, ℤ, pos, ◌+ℤ◌, ◌-ℤ◌, ◌*ℤ◌, neg_ℤ, ◌<ℤ◌, ◌≤ℤ◌, ◌⊎◌, inl, inr, arith, sym, ◌∙◌, ap}
use Rattle.std.proofs.lemmas.Int.{ints}
use Rattle.std.proofs.Math.IntN.{*ℤ_comm}
use Rattle.plane.specs.declared.coordinates.Point.{Point}
use Rattle.plane.specs.Geometry.{area, AreOpposite, DoCross}
use Rattle.number_laws.proofs.Products.{sub_mul, mul_sub, mul_differences, mul_add, mul_neg, mul_assoc, mul_left_comm}
use Rattle.number_laws.proofs.Signs.{negative_or, positive_positive, positive_negative}
use Rattle.plane.proofs.laws.Opposite.{opposite_neg}
use Rattle.number_laws.proofs.Sums.{low_weak, low_high_weak}

-- twice the area of three points, by products of their coordinates
area_expanded : (p q r : Point) → area p q r ≡ (q.x *ℤ r.y -ℤ q.y *ℤ r.x) -ℤ (p.x *ℤ r.y -ℤ p.y *ℤ r.x) +ℤ (p.x *ℤ q.y -ℤ p.y *ℤ q.x)
unfolding area
area_expanded p q r = omega (arith, ints, mul_differences q.x p.x r.y p.y, mul_differences q.y p.y r.x p.x)

cross_of : Point → Point → ℤ
cross_of p q = p.x *ℤ q.y -ℤ p.y *ℤ q.x

cross_back : (p q : Point) → cross_of p q ≡ neg_ℤ (cross_of q p)
unfolding cross_of
cross_back p q = omega (arith, ints)

-- the area by the cross products of its corners
area_crosses : (p q r : Point) → area p q r ≡ cross_of q r -ℤ cross_of p r +ℤ cross_of p q
unfolding cross_of
area_crosses p q r = area_expanded p q r

-- the areas of the four triangles of four points
pub area_sum : (a b c d : Point) → area a b d -ℤ area a b c ≡ area c d a -ℤ area c d b
area_sum a b c d =
    omega (arith, ints, area_crosses a b d, area_crosses a b c, area_crosses c d a, area_crosses c d b, cross_back d a, cross_back c a, cross_back d b, cross_back c b)

scaled_area : (x : ℤ) (p q r : Point) → x *ℤ area p q r ≡ x *ℤ cross_of q r -ℤ x *ℤ cross_of p r +ℤ x *ℤ cross_of p q
scaled_area x p q r =
    ap (λ y. x *ℤ y) (area_crosses p q r) ∙ mul_add x (cross_of q r -ℤ cross_of p r) (cross_of p q) ∙ ap (λ y. y +ℤ x *ℤ cross_of p q) (mul_sub x (cross_of q r) (cross_of p r))

-- a coordinate times a cross product, for three points: the sum round them is 0
rotate : (a b c : ℤ) → a *ℤ (b *ℤ c) ≡ c *ℤ (a *ℤ b)
rotate a b c = sym (mul_assoc a b c) ∙ *ℤ_comm (a *ℤ b) c

turn : (a b c : ℤ) → a *ℤ (b *ℤ c) ≡ c *ℤ (b *ℤ a)
turn a b c = rotate a b c ∙ ap (λ x. c *ℤ x) (*ℤ_comm a b)

around : (s t u v w x : ℤ) (m n o p q r : ℤ) → m ≡ s -ℤ t → n ≡ u -ℤ v → o ≡ w -ℤ x → s ≡ u → t ≡ w → v ≡ x → m -ℤ n +ℤ o ≡ pos 0
around s t u v w x m n o p q r hm hn ho e f g = omega (arith, ints)

-- for three points: their first coordinates times the cross products of the others cancel
crosses_cancel : (p q r : Point) → p.x *ℤ cross_of q r -ℤ q.x *ℤ cross_of p r +ℤ r.x *ℤ cross_of p q ≡ pos 0
unfolding cross_of
crosses_cancel p q r =
    around (p.x *ℤ (q.x *ℤ r.y)) (p.x *ℤ (q.y *ℤ r.x)) (q.x *ℤ (p.x *ℤ r.y)) (q.x *ℤ (p.y *ℤ r.x)) (r.x *ℤ (p.x *ℤ q.y)) (r.x *ℤ (p.y *ℤ q.x)) _ _ _ (pos 0) (pos 0) (pos 0)
    (mul_sub p.x (q.x *ℤ r.y) (q.y *ℤ r.x)) (mul_sub q.x (p.x *ℤ r.y) (p.y *ℤ r.x)) (mul_sub r.x (p.x *ℤ q.y) (p.y *ℤ q.x))
    (mul_left_comm p.x q.x r.y) (rotate p.x q.y r.x) (turn q.x p.y r.x)

scaled_back : (x : ℤ) (p q : Point) → x *ℤ cross_of p q ≡ neg_ℤ (x *ℤ cross_of q p)
scaled_back x p q = ap (λ y. x *ℤ y) (cross_back p q) ∙ mul_neg x (cross_of q p)

gathered : (bad bac bcd abd abc acd cbd cad cab dbc dac dab bda bca adb acb w x y z : ℤ) → abc -ℤ bac +ℤ cab ≡ pos 0 → abd -ℤ bad +ℤ dab ≡ pos 0 → acd -ℤ cad +ℤ dac ≡ pos 0 → bcd -ℤ cbd +ℤ dbc ≡ pos 0
    → bda ≡ neg_ℤ bad → bca ≡ neg_ℤ bac → adb ≡ neg_ℤ abd → acb ≡ neg_ℤ abc → w ≡ bda -ℤ bca +ℤ bcd → x ≡ adb -ℤ acb +ℤ acd → y ≡ cbd -ℤ cad +ℤ cab → z ≡ dbc -ℤ dac +ℤ dab → w -ℤ x ≡ y -ℤ z
gathered bad bac bcd abd abc acd cbd cad cab dbc dac dab bda bca adb acb w x y z h1 h2 h3 h4 e1 e2 e3 e4 hw hx hy hz = omega (arith, ints)

-- Four points depend on each other: the areas of the triangles of the other three are the weights.
dependence : (a b c d : Point) → b.x *ℤ area c d a -ℤ a.x *ℤ area c d b ≡ c.x *ℤ area a b d -ℤ d.x *ℤ area a b c
dependence a b c d =
    gathered (b.x *ℤ cross_of a d) (b.x *ℤ cross_of a c) (b.x *ℤ cross_of c d) (a.x *ℤ cross_of b d) (a.x *ℤ cross_of b c) (a.x *ℤ cross_of c d)
    (c.x *ℤ cross_of b d) (c.x *ℤ cross_of a d) (c.x *ℤ cross_of a b) (d.x *ℤ cross_of b c) (d.x *ℤ cross_of a c) (d.x *ℤ cross_of a b)
    (b.x *ℤ cross_of d a) (b.x *ℤ cross_of c a) (a.x *ℤ cross_of d b) (a.x *ℤ cross_of c b)
    (b.x *ℤ area c d a) (a.x *ℤ area c d b) (c.x *ℤ area a b d) (d.x *ℤ area a b c)
    (crosses_cancel a b c) (crosses_cancel a b d) (crosses_cancel a c d) (crosses_cancel b c d)
    (scaled_back b.x d a) (scaled_back b.x c a) (scaled_back a.x d b) (scaled_back a.x c b)
    (scaled_area b.x c d a) (scaled_area a.x c d b) (scaled_area c.x a b d) (scaled_area d.x a b c)

flat : (m a b c d : ℤ) → d -ℤ c ≡ a -ℤ b → m *ℤ d -ℤ m *ℤ c ≡ m *ℤ a -ℤ m *ℤ b
flat m a b c d e = sym (mul_sub m d c) ∙ ap (λ x. m *ℤ x) e ∙ mul_sub m a b

balance : (pa pb pc pd ma mb mc md ba ab cd dc : ℤ) → md -ℤ mc ≡ ma -ℤ mb → ba -ℤ ab ≡ cd -ℤ dc → pa ≡ ba -ℤ ma → pb ≡ ab -ℤ mb → pc ≡ dc -ℤ mc → pd ≡ cd -ℤ md → pa -ℤ pb ≡ pd -ℤ pc
balance pa pb pc pd ma mb mc md ba ab cd dc flat even ha hb hc hd = omega (arith, ints)

four_signs : (pa pb pc pd : ℤ) → pa ≤ℤ pos 0 → pos 0 ≤ℤ pb → pc <ℤ pos 0 → pos 0 <ℤ pd → pa -ℤ pb ≡ pd -ℤ pc → ⊥
four_signs pa pb pc pd ha hb hc hd e = omega (arith, ints)

four_signs_back : (pa pb pc pd : ℤ) → pos 0 ≤ℤ pa → pb ≤ℤ pos 0 → pos 0 <ℤ pc → pd <ℤ pos 0 → pa -ℤ pb ≡ pd -ℤ pc → ⊥
four_signs_back pa pb pc pd ha hb hc hd e = omega (arith, ints)

-- weights of opposite signs can't balance two numbers that are at most m with two that are above m
apart_across : (m ax bx cx dx a b c d : ℤ) → bx *ℤ a -ℤ ax *ℤ b ≡ cx *ℤ d -ℤ dx *ℤ c → d -ℤ c ≡ a -ℤ b → AreOpposite a b → AreOpposite c d → ax ≤ℤ m → bx ≤ℤ m → m <ℤ cx → m <ℤ dx → ⊥
apart_across m ax bx cx dx a b c d even sum (inl h) (inl k) la lb lc ld = omega (arith, ints, sum, h.0, h.1, k.0, k.1)
apart_across m ax bx cx dx a b c d even sum (inr h) (inr k) la lb lc ld = omega (arith, ints, sum, h.0, h.1, k.0, k.1)
apart_across m ax bx cx dx a b c d even sum (inr h) (inl k) la lb lc ld =
    let pa = low_high_weak (bx -ℤ m) a (omega (arith, ints)) h.0 in
    let pb = low_weak (ax -ℤ m) b (omega (arith, ints)) h.1 in
    let pc = positive_negative (dx -ℤ m) c (omega (arith, ints)) k.0 in
    let pd = positive_positive (cx -ℤ m) d (omega (arith, ints)) k.1 in
    let e = balance _ _ _ _ (m *ℤ a) (m *ℤ b) (m *ℤ c) (m *ℤ d) (bx *ℤ a) (ax *ℤ b) (cx *ℤ d) (dx *ℤ c) (flat m a b c d sum) even (sub_mul bx m a) (sub_mul ax m b) (sub_mul dx m c) (sub_mul cx m d) in
    four_signs ((bx -ℤ m) *ℤ a) ((ax -ℤ m) *ℤ b) ((dx -ℤ m) *ℤ c) ((cx -ℤ m) *ℤ d) pa pb pc pd e
apart_across m ax bx cx dx a b c d even sum (inl h) (inr k) la lb lc ld =
    let pa = low_weak (bx -ℤ m) a (omega (arith, ints)) h.0 in
    let pb = low_high_weak (ax -ℤ m) b (omega (arith, ints)) h.1 in
    let pc = positive_positive (dx -ℤ m) c (omega (arith, ints)) k.0 in
    let pd = positive_negative (cx -ℤ m) d (omega (arith, ints)) k.1 in
    let e = balance _ _ _ _ (m *ℤ a) (m *ℤ b) (m *ℤ c) (m *ℤ d) (bx *ℤ a) (ax *ℤ b) (cx *ℤ d) (dx *ℤ c) (flat m a b c d sum) even (sub_mul bx m a) (sub_mul ax m b) (sub_mul dx m c) (sub_mul cx m d) in
    four_signs_back ((bx -ℤ m) *ℤ a) ((ax -ℤ m) *ℤ b) ((dx -ℤ m) *ℤ c) ((cx -ℤ m) *ℤ d) pa pb pc pd e

-- crossing segments aren't apart across: the first isn't all at most m while the second is all above m
not_apart_across : (m : ℤ) (a b c d : Point) → AreOpposite (area a b c) (area a b d) → AreOpposite (area c d a) (area c d b) → a.x ≤ℤ m → b.x ≤ℤ m → m <ℤ c.x → m <ℤ d.x → ⊥
not_apart_across m a b c d first second la lb lc ld =
    apart_across m a.x b.x c.x d.x (area c d a) (area c d b) (area a b c) (area a b d) (dependence a b c d) (area_sum a b c d) second first la lb lc ld

flipped : Point → Point
flipped p = record { x = p.y; y = p.x }

area_flipped : (p q r : Point) → area (flipped p) (flipped q) (flipped r) ≡ neg_ℤ (area p q r)
unfolding area flipped
area_flipped p q r = omega (arith, ints)

-- crossing segments aren't apart upward either
not_apart_upward : (m : ℤ) (a b c d : Point) → AreOpposite (area a b c) (area a b d) → AreOpposite (area c d a) (area c d b) → a.y ≤ℤ m → b.y ≤ℤ m → m <ℤ c.y → m <ℤ d.y → ⊥
unfolding flipped
not_apart_upward m a b c d first second la lb lc ld =
    not_apart_across m (flipped a) (flipped b) (flipped c) (flipped d)
    (opposite_neg _ _ _ _ (area_flipped a b c) (area_flipped a b d) first)
    (opposite_neg _ _ _ _ (area_flipped c d a) (area_flipped c d b) second) la lb lc ld

-- both first numbers are below both last ones
abbrev pub AreBelow : (a b c d : ℤ) → Type 0
AreBelow a b c d = (a <ℤ c) × (a <ℤ d) × (b <ℤ c) × (b <ℤ d)

bound : (a b c d : ℤ) → AreBelow a b c d → (m : ℤ) × (a ≤ℤ m) × (b ≤ℤ m) × (m <ℤ c) × (m <ℤ d)
bound a b c d (ac, ad, bc, bd) = elim (negative_or (a -ℤ b)) [
  | inl h ↦ (b, omega (arith, ints), omega (arith, ints), bc, bd)
  | inr rest ↦ (a, omega (arith, ints), elim rest [ inl z ↦ omega (arith, ints) | inr g ↦ omega (arith, ints) ], ac, ad)
]

pub not_below_across : (a b c d : Point) → DoCross a b c d → AreBelow a.x b.x c.x d.x ⊎ AreBelow c.x d.x a.x b.x → ⊥
not_below_across a b c d cross (inl h) = let (m, la, lb, lc, ld) = bound a.x b.x c.x d.x h in not_apart_across m a b c d cross.0 cross.1 la lb lc ld
not_below_across a b c d cross (inr h) = let (m, la, lb, lc, ld) = bound c.x d.x a.x b.x h in not_apart_across m c d a b cross.1 cross.0 la lb lc ld

pub not_below_upward : (a b c d : Point) → DoCross a b c d → AreBelow a.y b.y c.y d.y ⊎ AreBelow c.y d.y a.y b.y → ⊥
not_below_upward a b c d cross (inl h) = let (m, la, lb, lc, ld) = bound a.y b.y c.y d.y h in not_apart_upward m a b c d cross.0 cross.1 la lb lc ld
not_below_upward a b c d cross (inr h) = let (m, la, lb, lc, ld) = bound c.y d.y a.y b.y h in not_apart_upward m c d a b cross.1 cross.0 la lb lc ld
