-- The kept positions before and after a position, through a mark that goes or comes.
use Rattle.std.proofs.Common.{◌≡◌, ◌≢◌, ℕ, Bool, List, inl, inr, arith, sym, ◌∙◌, subst}
use Rattle.star.specs.Gaps.{IsKept, ComesSooner, IsKeptAfter, IsKeptBefore}
use Rattle.star.proofs.Sooner.{sooner_joined, sooner_turned, sooner_differ, sooner_split, sooner_onward, sooner_one_way}
use Rattle.star.proofs.Without.{IsWithout}
use Rattle.number_laws.proofs.Naturals.{equal_or_not}

pub after_less : (list new : List (ℕ × Bool)) (k m j : ℕ) → IsWithout list new k → IsKeptAfter list m j → j ≢ k → IsKeptAfter new m j
after_less list new k m j w after ne = record { kept = w.stays j after.kept ne; first = λ x kx a b. after.first x (w.rest x kx).1 a b }

pub before_less : (list new : List (ℕ × Bool)) (k m j : ℕ) → IsWithout list new k → IsKeptBefore list m j → j ≢ k → IsKeptBefore new m j
before_less list new k m j w before ne = record { kept = w.stays j before.kept ne; last = λ x kx a b. before.last x (w.rest x kx).1 a b }

-- the next after one that had k next is the next after k
pub after_over : (list new : List (ℕ × Bool)) (k m b : ℕ) → IsWithout list new k → IsKeptAfter list m k → IsKeptAfter list k b → b ≢ k → IsKeptAfter new m b
after_over list new k m b w to_k of_k ne = record {
  kept = w.stays b of_k.kept ne;
  first = λ x kx xm xb. (let (xk, old) = w.rest x kx in sooner_joined m k b x (to_k.first x old xm xk) (of_k.first x old xk xb));
}

pub before_over : (list new : List (ℕ × Bool)) (k m a : ℕ) → IsWithout list new k → IsKeptBefore list m k → IsKeptBefore list k a → a ≢ k → IsKeptBefore new m a
before_over list new k m a w to_k of_k ne = record {
  kept = w.stays a of_k.kept ne;
  last = λ x kx xm xa. (let (xk, old) = w.rest x kx in sooner_joined a k m x (of_k.last x old xk xa) (to_k.last x old xm xk));
}

pub after_of_before : (list : List (ℕ × Bool)) (k a : ℕ) → IsKept list k → IsKeptBefore list k a → IsKeptAfter list a k
after_of_before list k a kk before = record { kept = kk; first = λ x kx xa xk. before.last x kx xk xa }

pub before_of_after : (list : List (ℕ × Bool)) (k b : ℕ) → IsKept list k → IsKeptAfter list k b → IsKeptBefore list b k
before_of_after list k b kk after = record { kept = kk; last = λ x kx xb xk. after.first x kx xk xb }

-- the one that has k next is the one before k
pub same_before : (list : List (ℕ × Bool)) (k m a : ℕ) → IsKept list m → m ≢ k → IsKeptAfter list m k → IsKeptBefore list k a → m ≡ a
same_before list k m a km mk after before = elim (equal_or_not m a) [
  | inl e ↦ e
  | inr ne ↦ absurd (other ne)
]
  where
    other : m ≢ a → ⊥
    other ne =
        let f = before.last m km mk ne in
        sooner_one_way a k m f (after.first a before.kept (λ h. ne (sym h)) (λ h. (sooner_differ a k m f).0 h))

pub same_after : (list : List (ℕ × Bool)) (k m b : ℕ) → IsKept list m → m ≢ k → IsKeptBefore list m k → IsKeptAfter list k b → m ≡ b
same_after list k m b km mk before after = elim (equal_or_not m b) [
  | inl e ↦ e
  | inr ne ↦ absurd (other ne)
]
  where
    other : m ≢ b → ⊥
    other ne =
        let f = after.first m km mk ne in
        let g = before.last b after.kept (λ h. ne (sym h)) (λ h. (sooner_differ k b m f).0 (sym h)) in
        sooner_one_way k b m f (sooner_turned k m b g)

-- with k kept too, the next after another than the one before k stays
pub after_more : (list new : List (ℕ × Bool)) (k a m j : ℕ) → IsWithout new list k → IsKeptBefore new k a → IsKept list m → m ≢ a → IsKeptAfter list m j → IsKeptAfter new m j
after_more list new k a m j w before km ma after = record {
  kept = (w.rest j after.kept).1;
  first = λ x kx xm xj. elim (equal_or_not x k) [
    | inr xk ↦ after.first x (w.stays x kx xk) xm xj
    | inl e ↦ subst (λ y. ComesSooner m j y) (sym e) at_k
  ];
}
  where
    at_k : ComesSooner m j k
    at_k =
        let (mk, new_m) = w.rest m km in
        let f = before.last m new_m mk ma in
        let ak : a ≢ k = (sooner_differ a k m f).0 in
        elim (equal_or_not a j) [
          | inl e ↦ subst (λ y. ComesSooner m y k) e (sooner_turned k m a (sooner_turned a k m f))
          | inr aj ↦ sooner_onward m j a k (after.first a (w.stays a before.kept ak) (λ h. ma (sym h)) aj) f
        ]

pub before_more : (list new : List (ℕ × Bool)) (k b m j : ℕ) → IsWithout new list k → IsKeptAfter new k b → IsKept list m → m ≢ b → IsKeptBefore list m j → IsKeptBefore new m j
before_more list new k b m j w after km mb before = record {
  kept = (w.rest j before.kept).1;
  last = λ x kx xm xj. elim (equal_or_not x k) [
    | inr xk ↦ before.last x (w.stays x kx xk) xm xj
    | inl e ↦ subst (λ y. ComesSooner j m y) (sym e) at_k
  ];
}
  where
    along : (j m b k : ℕ) → ComesSooner j m b → ComesSooner k b m → ComesSooner j m k
    along j m b k g f = grind arith

    at_k : ComesSooner j m k
    at_k =
        let (mk, new_m) = w.rest m km in
        let f = after.first m new_m mk mb in
        let kb : k ≢ b = (sooner_differ k b m f).0 in
        elim (equal_or_not b j) [
          | inl e ↦ subst (λ y. ComesSooner y m k) e (sooner_turned k b m f)
          | inr bj ↦ (let g = before.last b (w.stays b after.kept (λ h. kb (sym h))) (λ h. mb (sym h)) bj in along j m b k g f)
        ]

-- the one before an unmarked position is the one before the next after it
pub before_by_next : (list : List (ℕ × Bool)) (k a b : ℕ) → (¬ IsKept list k) → IsKept list b → IsKeptAfter list k b → IsKeptBefore list b a → IsKeptBefore list k a
before_by_next list k a b free kb after before = record { kept = before.kept; last = λ x kx xk xa. shown x kx xk xa }
  where
    shown : (x : ℕ) → IsKept list x → x ≢ k → x ≢ a → ComesSooner a k x
    shown x kx xk xa = elim (equal_or_not a b) [
      | inl e ↦ absurd (let f = before.last x kx (λ h. xa (h ∙ sym e)) xa in (sooner_differ a b x f).0 e)
      | inr ab ↦
          (let ak : a ≢ k = λ h. free (subst (λ y. IsKept list y) h before.kept) in
          let f = sooner_turned b a k (sooner_turned k b a (after.first a before.kept ak ab)) in
          elim (equal_or_not x b) [
            | inl e ↦ subst (λ y. ComesSooner a k y) (sym e) f
            | inr xb ↦ sooner_split a k b x f (before.last x kx xb xa)
          ])
    ]
