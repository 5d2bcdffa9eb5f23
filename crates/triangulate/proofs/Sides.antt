-- A triangle at a side that a new point sees, the side that closes a chain, and the sides of the whole.
use Rattle.std.proofs.Common.{◌≡◌, ◌≢◌, ℕ, ℤ, pos, neg_ℤ, arith, ◌<◌, inl, inr, sym, ◌∙◌, subst}
use Rattle.std.specs.Prelude.{◌<ℤ◌, ◌≤ℤ◌}
use Rattle.std.proofs.lemmas.Int.{ints}
use Rattle.plane_laws.specs.Order.{AreInOrder}
use Rattle.number_laws.proofs.Signs.{zero_of_neg, negative_or}
use Rattle.triangulate.proofs.Signs.{second_rises, third_rises, last_rises}
use Rattle.triangulate.proofs.Field.{Setting, Laws, flip, by_place}
use Rattle.triangulate.proofs.Turns.{not_positive}
use Rattle.triangulate.specs.Sides.{UpTo, AllLeft, Clear, Empty}
use Rattle.number_laws.proofs.Signs.{weak_same}
use Rattle.triangulate.proofs.Field.{view}

pub empty_next : (E : Setting) (o : ℕ → ℕ → ℕ → ℤ) (p q r : ℕ) → Empty (view E o) p q r → Empty (view E o) q r p
empty_next E o p q r h = record { none = λ s sn a b c g. h.none s sn c a b (g.2, g.0, g.1) }

zero_between : (x y : ℤ) → y ≡ neg_ℤ x → pos 0 ≤ℤ x → pos 0 ≤ℤ y → x ≡ pos 0
zero_between x y e g h = omega (arith, ints)

after_all : (a b c d x : ℤ) → AreInOrder a b c d → a <ℤ pos 0 → x ≡ neg_ℤ d → pos 0 ≤ℤ x → pos 0 ≤ℤ c → ⊥
after_all a b c d x q ha e hx hc =
    let r : b <ℤ a = q.falls_first ha (omega (arith, ints)) in omega (arith, ints, q.sum)

pub before_all : (a b c d : ℤ) → AreInOrder a b c d → a ≡ pos 0 → d <ℤ pos 0 → pos 0 ≤ℤ b → ⊥
before_all a b c d q ha hd hb = let r : b <ℤ a = q.falls_last (omega (arith, ints)) hd in omega (arith, ints)

pub amid_all : (a b c d : ℤ) → AreInOrder a b c d → a ≡ pos 0 → b <ℤ pos 0 → pos 0 ≤ℤ d → ⊥
amid_all a b c d q ha hb hd = let r : a ≤ℤ b = q.rises (omega (arith, ints)) hd in omega (arith, ints)

-- where z is right of the side a to b, no point lies in the triangle b a z
pub empty_side : (E : Setting) (o : ℕ → ℕ → ℕ → ℤ) → Laws E o → (a b z : ℕ) → a < E.n → b < E.n → z < E.n → E.B a b → E.B b z
    → AllLeft (view E o) (λ s. E.B s z) a b → Clear (view E o) a b → o a b z <ℤ pos 0 → Empty (view E o) b a z
empty_side E o L a b z an bn zn hab hbz left clear h = record {
  none = λ s sn nb na nz g.
      by_place E s z sn zn
      (λ hsz.
      let flat : o a b s ≡ pos 0 = zero_between (o a b s) (o b a s) (L.swap a b s) (left s sn hsz) g.0 in
      by_place E s a sn an
      (λ hsa. before_all (o s a b) (o s a z) (o s b z) (o a b z) (L.order s a b z hsa hab hbz)
      (sym (L.cycle s a b) ∙ flat) h (weak_same (o a z s) (o s a z) (L.cycle s a z) g.1))
      (λ e. na e)
      (λ has. by_place E s b sn bn
      (λ hsb. clear s sn has hsb (zero_of_neg (o a b s) (o a s b) (flip E o L a s b) flat))
      (λ e. nb e)
      (λ hbs. amid_all (o a b s) (o a b z) (o a s z) (o b s z) (L.order a b s z hab hbs hsz) flat h
      (weak_same (o z b s) (o b s z) (sym (L.cycle z b s)) g.2))))
      (λ e. nz e)
      (λ hzs. after_all (o a b z) (o a b s) (o a z s) (o b z s) (o z b s) (L.order a b z s hab hbz hzs) h (L.swap b z s) g.2 g.1);
}

-- where z isn't right of the side c to a, the points before a are left of a to z
pub settled_before : (E : Setting) (o : ℕ → ℕ → ℕ → ℤ) → Laws E o → (c a z s : ℕ) → c < E.n → s < E.n → E.B c a → E.B a z
    → AllLeft (view E o) (λ s. E.B s z) c a → pos 0 ≤ℤ o c a z → E.B s a → pos 0 ≤ℤ o a z s
settled_before E o L c a z s cn sn hca haz left h hsa =
    let hs : pos 0 ≤ℤ o c a s = left s sn (E.trans s a z hsa haz) in
    weak_same (o s a z) (o a z s) (sym (L.cycle s a z))
    (by_place E s c sn cn
    (λ p. third_rises (o s c a) (o s c z) (o s a z) (o c a z) (L.order s c a z p hca haz) (weak_same (o c a s) (o s c a) (L.cycle s c a) hs) h)
    (λ e. subst (λ x. pos 0 ≤ℤ o x a z) (sym e) h)
    (λ p. last_rises (o c s a) (o c s z) (o c a z) (o s a z) (L.order c s a z p hsa haz)
    (not_positive (o c s a) (o c a s) (flip E o L c s a) hs) h))

-- the point z is then left of each side before
pub settled_side : (E : Setting) (o : ℕ → ℕ → ℕ → ℤ) → Laws E o → (p q a z : ℕ) → E.B p q → E.B q a → E.B a z
    → pos 0 ≤ℤ o p q a → pos 0 ≤ℤ o a z q → pos 0 ≤ℤ o p q z
settled_side E o L p q a z hpq hqa haz hp hq =
    second_rises (o p q a) (o p q z) (o p a z) (o q a z) (L.order p q a z hpq hqa haz) hp (weak_same (o a z q) (o q a z) (L.cycle q a z) hq)

-- all points left of two sides: i to j, and a to b with i in its range
flat_first : (x y : ℤ) → x ≡ neg_ℤ y → pos 0 ≤ℤ x → pos 0 ≤ℤ y → y ≡ pos 0
flat_first x y e g h = omega (arith, ints)

below : (x y : ℤ) → x ≡ neg_ℤ y → pos 0 ≤ℤ x → y ≢ pos 0 → y <ℤ pos 0
below x y e g h = elim (negative_or y) [ inl p ↦ p | inr q ↦ elim q [ inl p ↦ absurd (h p) | inr p ↦ absurd (omega (arith, ints)) ] ]

within_one : (a b c d : ℤ) → AreInOrder a b c d → pos 0 ≤ℤ a → b <ℤ pos 0 → pos 0 ≤ℤ d → ⊥
within_one a b c d q ha hb hd = let r : pos 0 ≤ℤ b = second_rises a b c d q ha hd in omega (arith, ints)

within_two : (a b c d x : ℤ) → AreInOrder a b c d → a <ℤ pos 0 → pos 0 ≤ℤ b → x ≡ neg_ℤ d → pos 0 ≤ℤ x → ⊥
within_two a b c d x q ha hb e hx = let r : b <ℤ a = q.falls_first ha (omega (arith, ints)) in omega (arith, ints)

both_signs : (x : ℤ) → x <ℤ pos 0 → pos 0 ≤ℤ x → ⊥
both_signs x g h = omega (arith, ints)

-- the two are the same side
pub one_side : (E : Setting) (o : ℕ → ℕ → ℕ → ℤ) → Laws E o → (Q : ℕ → Type 0) → ((s : ℕ) → s < E.n → Q s) → (a b i j : ℕ) → a < E.n → b < E.n → i < E.n → j < E.n
    → E.B a b → AllLeft (view E o) Q a b → Clear (view E o) a b → E.B i j → AllLeft (view E o) Q i j → Clear (view E o) i j
    → UpTo E.B a i → E.B i b → (a ≡ i) × (b ≡ j)
one_side E o L Q all a b i j an bn iN jn hab left clear hij left2 clear2 (inl e) hib =
    let hib2 : E.B a j = subst (λ x. E.B x j) (sym e) hij in
    let ajb : pos 0 ≤ℤ o a j b = subst (λ x. pos 0 ≤ℤ o x j b) (sym e) (left2 b bn (all b bn)) in
    let abj : pos 0 ≤ℤ o a b j = left j jn (all j jn) in
    by_place E b j bn jn
    (λ p. absurd (clear2 b bn hib p (subst (λ x. o x b j ≡ pos 0) e (flat_first (o a j b) (o a b j) (flip E o L a b j) ajb abj))))
    (λ q. (e, q))
    (λ p. absurd (clear j jn hib2 p (flat_first (o a b j) (o a j b) (flip E o L a j b) abj ajb)))
one_side E o L Q all a b i j an bn iN jn hab left clear hij left2 clear2 (inr hai) hib =
    let aij : pos 0 ≤ℤ o a i j = weak_same (o i j a) (o a i j) (L.cycle a i j) (left2 a an (all a an)) in
    let aib : o a i b <ℤ pos 0 = below (o a b i) (o a i b) (flip E o L a i b) (left i iN (all i iN)) (clear i iN hai hib) in
    let ijb : pos 0 ≤ℤ o i j b = left2 b bn (all b bn) in
    by_place E j b jn bn
    (λ p. absurd (within_one (o a i j) (o a i b) (o a j b) (o i j b) (L.order a i j b hai hij p) aij aib ijb))
    (λ q. absurd (both_signs (o a i b) aib (subst (λ x. pos 0 ≤ℤ o a i x) q aij)))
    (λ p. absurd (within_two (o a i b) (o a i j) (o a b j) (o i b j) (o i j b) (L.order a i b j hai hib p) aib aij (flip E o L i b j) ijb))
