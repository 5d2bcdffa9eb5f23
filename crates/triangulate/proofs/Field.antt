-- Points in an order, with a sign for each three of them.
use Rattle.std.proofs.Common.{◌≡◌, ℕ, ℤ, pos, neg_ℤ, arith, ◌<◌, ◌⊎◌, inl, inr, sym, ◌∙◌, ap, subst}
use Rattle.std.specs.Prelude.{◌<ℤ◌, ◌≤ℤ◌}
use Rattle.std.proofs.lemmas.Int.{ints}
use Rattle.plane_laws.specs.Order.{AreInOrder}
use Rattle.triangulate.specs.Sides.{Sight, UpTo}
use Rattle.number_laws.proofs.Signs.{zero_of_own}

-- n points in a strict order
pub record Setting : Type 1 where
  pub n : ℕ
  pub B : (i j : ℕ) → Type 0
  pub trans : (i j k : ℕ) → B i j → B j k → B i k
  pub irrefl : (i : ℕ) → ¬ B i i
  pub place : (i j : ℕ) → i < n → j < n → B i j ⊎ ((i ≡ j) ⊎ B j i)

-- the points with one of their orientations
abbrev pub view : (E : Setting) (o : ℕ → ℕ → ℕ → ℤ) → Sight
view E o = record { count = E.n; Before = E.B; sign = o }

-- the signs of three points are those of an orientation
pub record Laws (E : Setting) (o : ℕ → ℕ → ℕ → ℤ) : Type 0 where
  pub cycle : (i j k : ℕ) → o j k i ≡ o i j k
  pub swap : (i j k : ℕ) → o j i k ≡ neg_ℤ (o i j k)
  pub order : (i j k l : ℕ) → E.B i j → E.B j k → E.B k l → AreInOrder (o i j k) (o i j l) (o i k l) (o j k l)

-- the other sign everywhere
abbrev pub AreTurned : (o w : ℕ → ℕ → ℕ → ℤ) → Type 0
AreTurned o w = (i j k : ℕ) → w i j k ≡ neg_ℤ (o i j k)

pub turned_back : (o w : ℕ → ℕ → ℕ → ℤ) → AreTurned o w → AreTurned w o
turned_back o w h i j k = let e : w i j k ≡ neg_ℤ (o i j k) = h i j k in omega (arith, ints, e)

pub turned_order : (a b c d : ℤ) → AreInOrder a b c d → AreInOrder (neg_ℤ a) (neg_ℤ b) (neg_ℤ c) (neg_ℤ d)
turned_order a b c d q = record {
  sum = omega (arith, ints, q.sum);
  rises = λ g h. let r : b ≤ℤ a = q.falls (omega (arith, ints)) (omega (arith, ints)) in omega (arith, ints);
  rises_first = λ g h. let r : b <ℤ a = q.falls_first (omega (arith, ints)) (omega (arith, ints)) in omega (arith, ints);
  rises_last = λ g h. let r : b <ℤ a = q.falls_last (omega (arith, ints)) (omega (arith, ints)) in omega (arith, ints);
  falls = λ g h. let r : a ≤ℤ b = q.rises (omega (arith, ints)) (omega (arith, ints)) in omega (arith, ints);
  falls_first = λ g h. let r : a <ℤ b = q.rises_first (omega (arith, ints)) (omega (arith, ints)) in omega (arith, ints);
  falls_last = λ g h. let r : a <ℤ b = q.rises_last (omega (arith, ints)) (omega (arith, ints)) in omega (arith, ints);
}

pub turned_laws : (E : Setting) (o : ℕ → ℕ → ℕ → ℤ) → Laws E o → Laws E (λ i j k. neg_ℤ (o i j k))
turned_laws E o L = record {
  cycle = λ i j k. ap neg_ℤ (L.cycle i j k);
  swap = λ i j k. ap neg_ℤ (L.swap i j k);
  order = λ i j k l p q r. turned_order (o i j k) (o i j l) (o i k l) (o j k l) (L.order i j k l p q r);
}

-- the last two turned round
pub flip : (E : Setting) (o : ℕ → ℕ → ℕ → ℤ) → Laws E o → (i j k : ℕ) → o i k j ≡ neg_ℤ (o i j k)
flip E o L i j k = sym (L.cycle i k j) ∙ sym (L.cycle k j i) ∙ L.swap i j k

pub zero_first : (E : Setting) (o : ℕ → ℕ → ℕ → ℤ) → Laws E o → (i k : ℕ) → o i i k ≡ pos 0
zero_first E o L i k = zero_of_own (o i i k) (L.swap i i k)

pub zero_ends : (E : Setting) (o : ℕ → ℕ → ℕ → ℤ) → Laws E o → (i j : ℕ) → o i j i ≡ pos 0
zero_ends E o L i j = L.cycle i i j ∙ zero_first E o L i j

pub zero_last : (E : Setting) (o : ℕ → ℕ → ℕ → ℤ) → Laws E o → (i j : ℕ) → o i j j ≡ pos 0
zero_last E o L i j = sym (L.cycle i j j) ∙ zero_first E o L j i

-- three cases of two points
pub by_place : {P : Type 0} (E : Setting) (i j : ℕ) → i < E.n → j < E.n → (E.B i j → P) → (i ≡ j → P) → (E.B j i → P) → P
by_place E i j hi hj f g h = elim (E.place i j hi hj) [ inl p ↦ f p | inr q ↦ elim q [ inl e ↦ g e | inr r ↦ h r ] ]

pub not_both : {P : Type 0} (E : Setting) (i j : ℕ) → E.B i j → E.B j i → P
not_both E i j p q = absurd (E.irrefl i (E.trans i j i p q))

pub up_to_before : (E : Setting) (i j k : ℕ) → UpTo E.B i j → E.B j k → E.B i k
up_to_before E i j k (inl e) h = subst (λ x. E.B x k) (sym e) h
up_to_before E i j k (inr p) h = E.trans i j k p h

pub before_up_to : (E : Setting) (i j k : ℕ) → E.B i j → UpTo E.B j k → E.B i k
before_up_to E i j k h (inl e) = subst (λ x. E.B i x) e h
before_up_to E i j k h (inr p) = E.trans i j k h p

pub up_to_not_before : {P : Type 0} (E : Setting) (i j : ℕ) → UpTo E.B i j → E.B j i → P
up_to_not_before E i j h p = absurd (E.irrefl i (up_to_before E i j i h p))
