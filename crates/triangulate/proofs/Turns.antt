-- The turns at a chain of points that has all points on its left.
use Rattle.std.proofs.Common.{◌≡◌, ℕ, ℤ, pos, neg_ℤ, arith, ◌<◌, inl, inr, sym, subst}
use Rattle.std.specs.Prelude.{◌<ℤ◌, ◌≤ℤ◌}
use Rattle.std.proofs.lemmas.Int.{ints}
use Rattle.plane_laws.specs.Order.{AreInOrder}
use Rattle.plane.specs.Geometry.{AreOpposite}
use Rattle.triangulate.proofs.Signs.{second_falls, third_falls, second_rises, first_rises}
use Rattle.triangulate.proofs.Field.{Setting, Laws, flip, zero_ends, by_place}
use Rattle.triangulate.specs.Sides.{AllLeft, Beyond, Cross}
use Rattle.plane.proofs.laws.Opposite.{opposite_neg}
use Rattle.number_laws.proofs.Signs.{positive_of_neg, zero_not_negative, zero_not_positive}
use Rattle.number_laws.proofs.Signs.{weak_same, positive_same}
use Rattle.triangulate.specs.Sides.{Sight}
use Rattle.triangulate.proofs.Field.{view}

-- the chain doesn't turn to the right at a
abbrev pub Spine : (V : Sight) (a z : ℕ) → Type 0
Spine V a z = (k l : ℕ) → k < V.count → l < V.count → V.Before k a → V.Before a l → V.Before l z → pos 0 ≤ℤ V.sign k a l

pub not_positive : (x y : ℤ) → y ≡ neg_ℤ x → pos 0 ≤ℤ y → x ≤ℤ pos 0
not_positive x y e h = omega (arith, ints)

-- where z is right of the side a to b, the points after a are left of a to z
pub beyond_side : (E : Setting) (o : ℕ → ℕ → ℕ → ℤ) → Laws E o → (a b z : ℕ) → b < E.n → E.B a b → E.B b z
    → AllLeft (view E o) (λ s. E.B s z) a b → o a b z <ℤ pos 0 → Beyond (view E o) a z
beyond_side E o L a b z bn hab hbz left h s sn has hsz =
    by_place E s b sn bn
    (λ p. positive_of_neg (o a s z) (o a z s) (flip E o L a s z)
    (second_falls (o a s b) (o a s z) (o a b z) (o s b z) (L.order a s b z has p hbz)
    (not_positive (o a s b) (o a b s) (flip E o L a s b) (left s sn hsz)) h))
    (λ e. subst (λ x. pos 0 <ℤ o a z x) (sym e) (positive_of_neg (o a b z) (o a z b) (flip E o L a b z) h))
    (λ p. positive_of_neg (o a s z) (o a z s) (flip E o L a s z)
    (third_falls (o a b s) (o a b z) (o a s z) (o b s z) (L.order a b s z hab p hsz) (left s sn hsz) h))

-- a side's first point is on the spine
pub spine_side : (E : Setting) (o : ℕ → ℕ → ℕ → ℤ) → Laws E o → (a b z : ℕ) → b < E.n → E.B a b → E.B b z
    → AllLeft (view E o) (λ s. E.B s z) a b → Spine (view E o) a z
spine_side E o L a b z bn hab hbz left k l kn ln hka hal hlz =
    let kab : pos 0 ≤ℤ o k a b = weak_same (o a b k) (o k a b) (L.cycle k a b) (left k kn (E.trans k a z hka (E.trans a b z hab hbz))) in
    by_place E l b ln bn
    (λ p. first_rises (o k a l) (o k a b) (o k l b) (o a l b) (L.order k a l b hka hal p) kab
    (not_positive (o a l b) (o a b l) (flip E o L a l b) (left l ln hlz)))
    (λ e. subst (λ x. pos 0 ≤ℤ o k a x) (sym e) kab)
    (λ p. second_rises (o k a b) (o k a l) (o k b l) (o a b l) (L.order k a b l hka hab p) kab (left l ln hlz))

-- four in order: the first two opposite and the last two opposite is never so
four_first : (a b c d : ℤ) → AreInOrder a b c d → AreOpposite a b → c <ℤ pos 0 → pos 0 <ℤ d → ⊥
four_first a b c d q (inl h) hc hd =
    let r : b <ℤ pos 0 = second_falls a b c d q (omega (arith, ints, h.0)) hc in omega (arith, ints, h.1)
four_first a b c d q (inr h) hc hd =
    let r : a <ℤ b = q.rises_last (omega (arith, ints, h.0)) hd in omega (arith, ints, h.0, h.1)

four_second : (a b c d : ℤ) → AreInOrder a b c d → AreOpposite a b → pos 0 <ℤ c → d <ℤ pos 0 → ⊥
four_second a b c d q (inl h) hc hd =
    let r : b <ℤ a = q.falls_last (omega (arith, ints, h.0)) hd in omega (arith, ints, h.0, h.1)
four_second a b c d q (inr h) hc hd =
    let r : c <ℤ pos 0 = third_falls a b c d q (omega (arith, ints, h.0)) h.1 in omega (arith, ints)

four_third : (a b c d y : ℤ) → AreInOrder a b c d → pos 0 ≤ℤ a → b <ℤ pos 0 → d <ℤ pos 0 → y ≡ neg_ℤ a → AreOpposite y c → ⊥
four_third a b c d y q ha hb hd e (inl h) = omega (arith, ints, h.0, h.1, q.sum)
four_third a b c d y q ha hb hd e (inr h) = omega (arith, ints, h.0, h.1, q.sum)

pub same_below : (x y : ℤ) → x ≡ y → x <ℤ pos 0 → y <ℤ pos 0
same_below x y e h = omega (arith, ints)

pub above_turned : (x y : ℤ) → y ≡ neg_ℤ x → pos 0 <ℤ y → x <ℤ pos 0
above_turned x y e h = omega (arith, ints)

pub two_signs : {P : Type 0} (x : ℤ) → x <ℤ pos 0 → pos 0 <ℤ x → P
two_signs x g h = absurd (omega (arith, ints))

-- a joined pair crosses nothing among the points before its later end: k right and l left of it
crosses_none : (E : Setting) (o : ℕ → ℕ → ℕ → ℤ) → Laws E o → (a z k l : ℕ) → a < E.n → k < E.n → l < E.n → E.B a z → E.B k z → E.B l z
    → Beyond (view E o) a z → Spine (view E o) a z → o a z k <ℤ pos 0 → pos 0 <ℤ o a z l → AreOpposite (o k l a) (o k l z) → ⊥
crosses_none E o L a z k l an kn ln haz hkz hlz beyond spine hk hl h =
    by_place E a k an kn
    (λ p. two_signs (o a z k) hk (beyond k kn p hkz))
    (λ e. zero_not_negative (o a z k) (subst (λ x. o a z x ≡ pos 0) e (zero_ends E o L a z)) hk)
    (λ hka.
    let kaz : o k a z <ℤ pos 0 = same_below (o a z k) (o k a z) (L.cycle k a z) hk in
    by_place E a l an ln
    (λ p. four_third (o k a l) (o k a z) (o k l z) (o a l z) (o k l a) (L.order k a l z hka p hlz)
    (spine k l kn ln hka p hlz) kaz (above_turned (o a l z) (o a z l) (flip E o L a l z) hl) (flip E o L k a l) h)
    (λ e. zero_not_positive (o a z l) (subst (λ x. o a z x ≡ pos 0) e (zero_ends E o L a z)) hl)
    (λ hla.
    let laz : pos 0 <ℤ o l a z = positive_same (o a z l) (o l a z) (L.cycle l a z) hl in
    by_place E k l kn ln
    (λ p. four_first (o k l a) (o k l z) (o k a z) (o l a z) (L.order k l a z p hla haz) h kaz laz)
    (λ e. two_signs (o a z k) hk (subst (λ x. pos 0 <ℤ o a z x) (sym e) hl))
    (λ p. four_second (o l k a) (o l k z) (o l a z) (o k a z) (L.order l k a z p hka haz)
    (opposite_neg (o k l a) (o k l z) (o l k a) (o l k z) (L.swap k l a) (L.swap k l z) h) laz kaz)))

pub no_crossing : (E : Setting) (o : ℕ → ℕ → ℕ → ℤ) → Laws E o → (a z k l : ℕ) → a < E.n → k < E.n → l < E.n → E.B a z → E.B k z → E.B l z
    → Beyond (view E o) a z → Spine (view E o) a z → ¬ Cross o a z k l
no_crossing E o L a z k l an kn ln haz hkz hlz beyond spine h =
    elim h.0 [
      | inl g ↦ crosses_none E o L a z k l an kn ln haz hkz hlz beyond spine g.0 g.1 h.1
      | inr g ↦ crosses_none E o L a z l k an ln kn haz hlz hkz beyond spine g.1 g.0
          (opposite_neg (o k l a) (o k l z) (o l k a) (o l k z) (L.swap k l a) (L.swap k l z) h.1)
    ]
