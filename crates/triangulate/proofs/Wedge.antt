-- A sweep pair of the new point that lies beyond the chain's last point on one side, after the next one is joined.
use Rattle.std.proofs.Common.{◌≡◌, ℕ, ℤ, pos, neg_ℤ, ◌<◌, ◌⊎◌, inl, inr, sym, ◌∙◌, ap, subst, arith}
use Rattle.std.specs.Prelude.{◌<ℤ◌, ◌≤ℤ◌}
use Rattle.std.proofs.lemmas.Int.{ints}
use Rattle.number_laws.proofs.Signs.{by_sign, positive_of_neg, zero_of_neg, zero_not_negative, zero_not_positive, weak_of_positive}
use Rattle.triangulate.specs.Sides.{AllLeft, Clear, Beyond}
use Rattle.triangulate.specs.Front.{Sweeps}
use Rattle.triangulate.proofs.Field.{Setting, Laws, flip, zero_ends, by_place}
use Rattle.triangulate.proofs.Sides.{before_all, amid_all}
use Rattle.triangulate.proofs.Field.{view}

turned_low : (x y : ℤ) → y ≡ neg_ℤ x → pos 0 <ℤ x → y <ℤ pos 0
turned_low x y e h = omega (arith, ints)

weak_as : (x y : ℤ) → x ≡ y → pos 0 <ℤ x → pos 0 ≤ℤ y
weak_as x y e h = omega (arith, ints)

pub no_low : {P : Type 0} (x : ℤ) → pos 0 ≤ℤ x → x <ℤ pos 0 → P
no_low x g h = absurd (omega (arith, ints))

-- the second number of a turn about z, from the first
about : (E : Setting) (o : ℕ → ℕ → ℕ → ℤ) → Laws E o → (a z i : ℕ) → o i z a ≡ neg_ℤ (o a z i)
about E o L a z i = L.swap z i a ∙ ap neg_ℤ (L.cycle a z i)

-- between the rays from z to a and to b there is none
inside : (E : Setting) (o : ℕ → ℕ → ℕ → ℤ) → Laws E o → (a b z i : ℕ) → a < E.n → b < E.n → i < E.n → E.B a b → E.B b z → E.B i z
    → AllLeft (view E o) (λ s. E.B s z) a b → Clear (view E o) a b → o a b z <ℤ pos 0 → Sweeps (view E o) i z → pos 0 <ℤ o a z i → o b z i <ℤ pos 0 → ⊥
inside E o L a b z i an bn iN hab hbz hiz left clear h k ga gb =
    by_sign (o a b i)
    (λ p. k.alone a b an bn (E.trans a b z hab hbz) hbz
    (inl (turned_low (o a z i) (o i z a) (about E o L a z i) ga, positive_of_neg (o b z i) (o i z b) (about E o L b z i) gb), inr (p, h)))
    (λ p. by_place E i a iN an
    (λ q. before_all (o i a b) (o i a z) (o i b z) (o a b z) (L.order i a b z q hab hbz) (sym (L.cycle i a b) ∙ p) h (weak_as (o a z i) (o i a z) (L.cycle i a z) ga))
    (λ e. zero_not_positive (o a z i) (subst (λ x. o a z x ≡ pos 0) (sym e) (zero_ends E o L a z)) ga)
    (λ q. by_place E i b iN bn
    (λ u. clear i iN q u (zero_of_neg (o a b i) (o a i b) (flip E o L a i b) p))
    (λ e. zero_not_negative (o b z i) (subst (λ x. o b z x ≡ pos 0) (sym e) (zero_ends E o L b z)) gb)
    (λ u. amid_all (o a b i) (o a b z) (o a i z) (o b i z) (L.order a b i z hab u hiz) p h
    (weak_of_positive (o b i z) (positive_of_neg (o b z i) (o b i z) (flip E o L b z i) gb)))))
    (λ p. no_low (o a b i) (left i iN hiz) p)

pub wedge : (E : Setting) (o : ℕ → ℕ → ℕ → ℤ) → Laws E o → (a b z i : ℕ) → a < E.n → b < E.n → z < E.n → i < E.n → E.B a b → E.B b z → E.B i z
    → AllLeft (view E o) (λ s. E.B s z) a b → Clear (view E o) a b → o a b z <ℤ pos 0 → Beyond (view E o) a z → Sweeps (view E o) i z → o b z i <ℤ pos 0
    → (i ≡ a) ⊎ (o a z i <ℤ pos 0)
wedge E o L a b z i an bn zn iN hab hbz hiz left clear h far k gb =
    by_place E i a iN an
    (λ q. by_sign (o a z i)
    (λ p. absurd (inside E o L a b z i an bn iN hab hbz hiz left clear h k p gb))
    (λ p. absurd (k.clear a an q (E.trans a b z hab hbz) (sym (L.cycle i a z) ∙ p)))
    (λ p. inr p))
    (λ e. inl e)
    (λ q. absurd (inside E o L a b z i an bn iN hab hbz hiz left clear h k (far i iN q hiz) gb))

-- a sweep pair of z with another point than the last one lies beyond one of its two sides
pub aside : (E : Setting) (o w : ℕ → ℕ → ℕ → ℤ) → Laws E o → ((p q r : ℕ) → w p q r ≡ neg_ℤ (o p q r)) → (last z i : ℕ) → last < E.n → E.B last z → E.B i last → Sweeps (view E o) i z
    → (o last z i <ℤ pos 0) ⊎ (w last z i <ℤ pos 0)
aside E o w L tr last z i ln hlz hil k =
    by_sign (o last z i)
    (λ p. inr (turned_low (o last z i) (w last z i) (tr last z i) p))
    (λ p. absurd (k.clear last ln hil hlz (sym (L.cycle i last z) ∙ p)))
    (λ p. inl p)
