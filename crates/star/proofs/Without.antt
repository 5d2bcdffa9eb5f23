-- A list and the same list without one mark.
use Rattle.std.proofs.Common.{◌≡◌, ◌≢◌, ℕ, ◌<◌, Bool, true, false, List, length, set, inl, inr, sym, ◌∙◌, ap, subst, get_or-set_other, get_or-set_same, length-set}
use Rattle.std.proofs.lemmas.Bool.{false≢true}
use Rattle.star.specs.Stars.{entry}
use Rattle.star.specs.Gaps.{IsKept}
use Rattle.number_laws.proofs.Naturals.{equal_or_not}

-- the second list is the first, in which k is kept, without the mark of k
pub record IsWithout (list new : List (ℕ × Bool)) (k : ℕ) : Type 0 where
  pub len : length new ≡ length list
  pub names : (m : ℕ) → (entry new m).0 ≡ (entry list m).0
  pub kept : IsKept list k
  pub rest : (m : ℕ) → IsKept new m → (m ≢ k) × IsKept list m
  pub stays : (m : ℕ) → IsKept list m → m ≢ k → IsKept new m

-- the list without one mark
pub set_without : (list : List (ℕ × Bool)) (k q : ℕ) → IsKept list k → (entry list k).0 ≡ q → IsWithout list (set list k (q, false)) k
set_without list k q kk at = record {
  len = length-set list k (q, false);
  names = named;
  kept = kk;
  rest = λ m km. elim (equal_or_not m k) [
    | inl e ↦ absurd (false≢true (sym (ap (λ (p : ℕ × Bool). p.1) (get_or-set_same list k (q, false) (0, false) kk.0)) ∙ ap (λ i. (entry (set list k (q, false)) i).1) (sym e) ∙ km.1))
    | inr ne ↦ (ne, (subst (λ n. m < n) (length-set list k (q, false)) km.0, ap (λ (p : ℕ × Bool). p.1) (sym (get_or-set_other list k m (q, false) (0, false) ne)) ∙ km.1))
  ];
  stays = λ m km ne. (subst (λ n. m < n) (sym (length-set list k (q, false))) km.0, ap (λ (p : ℕ × Bool). p.1) (get_or-set_other list k m (q, false) (0, false) ne) ∙ km.1);
}
  where
    named : (m : ℕ) → (entry (set list k (q, false)) m).0 ≡ (entry list m).0
    named m = elim (equal_or_not m k) [
      | inl e ↦ ap (λ i. (entry (set list k (q, false)) i).0) e ∙ ap (λ (p : ℕ × Bool). p.0) (get_or-set_same list k (q, false) (0, false) kk.0) ∙ sym at ∙ ap (λ i. (entry list i).0) (sym e)
      | inr ne ↦ ap (λ (p : ℕ × Bool). p.0) (get_or-set_other list k m (q, false) (0, false) ne)
    ]

-- the list with one mark more
pub set_with : (list : List (ℕ × Bool)) (k q : ℕ) → k < length list → (¬ IsKept list k) → (entry list k).0 ≡ q → IsWithout (set list k (q, true)) list k
set_with list k q hk free at = record {
  len = sym (length-set list k (q, true));
  names = λ m. sym (named m);
  kept = (subst (λ n. k < n) (sym (length-set list k (q, true))) hk, ap (λ (p : ℕ × Bool). p.1) (get_or-set_same list k (q, true) (0, false) hk));
  rest = λ m km. (let ne : m ≢ k = λ e. free (subst (λ z. IsKept list z) e km) in
      (ne, (subst (λ n. m < n) (sym (length-set list k (q, true))) km.0, ap (λ (p : ℕ × Bool). p.1) (get_or-set_other list k m (q, true) (0, false) ne) ∙ km.1)));
  stays = λ m km ne. (subst (λ n. m < n) (length-set list k (q, true)) km.0, ap (λ (p : ℕ × Bool). p.1) (sym (get_or-set_other list k m (q, true) (0, false) ne)) ∙ km.1);
}
  where
    named : (m : ℕ) → (entry (set list k (q, true)) m).0 ≡ (entry list m).0
    named m = elim (equal_or_not m k) [
      | inl e ↦ ap (λ i. (entry (set list k (q, true)) i).0) e ∙ ap (λ (p : ℕ × Bool). p.0) (get_or-set_same list k (q, true) (0, false) hk) ∙ sym at ∙ ap (λ i. (entry list i).0) (sym e)
      | inr ne ↦ ap (λ (p : ℕ × Bool). p.0) (get_or-set_other list k m (q, true) (0, false) ne)
    ]
