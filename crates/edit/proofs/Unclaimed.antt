-- The least vertex without a claim of two tests is the lesser of theirs.
use Rattle.std.proofs.Common.{◌≡◌, ℕ, ◌+◌, ◌<◌, Bool, true, false, ◌||◌, nat_eq, nat_lt, List, [], ◌∷◌, ◌++◌, take, length, get_or, inl, inr, arith, sym, ◌∙◌, ap, subst, Option, Some, None}
use Rattle.std.specs.List.{list_any}
use Rattle.std.proofs.lemmas.Bool.{false≢true, cond_both, cases_lt, or_cases, or_left, or_right}
use Rattle.std.proofs.lemmas.Bool.Decides.{Decides-eqb, Decides-ltb, not_from_Decides}
use Rattle.std.proofs.lemmas.List.{take_more}
use Rattle.std.proofs.lemmas.List.Folds.{list_any-append}
use Rattle.journal_defs.specs.declared.edit.Edit.{Edit}
use Rattle.journal_defs.specs.declared.edit.Claim.{Claim}
use Rattle.journal_defs.specs.Edits.{touches}
use Rattle.edit.specs.Plans.{IsLeastUnclaimed, is_claimed, are_touching}
use Rattle.edit.specs.Lesser.{lesser}
use Rattle.std.proofs.Math.Bool.{or-false}

-- a vertex passes u exactly where it passes s or t
abbrev pub IsEither : (s t u : ℕ → Bool) → Type 0
IsEither s t u = (v : ℕ) → u v ≡ (s v || t v)

pub lesser_unclaimed : (s t u : ℕ → Bool) (claims : List Claim) (a b : Option ℕ) → IsEither s t u → IsLeastUnclaimed s claims a → IsLeastUnclaimed t claims b → IsLeastUnclaimed u claims (lesser a b)
lesser_unclaimed s t u claims None None is x y = λ v h. elim (or_cases (s v) (t v) (sym (is v) ∙ h)) [ inl k ↦ x v k | inr k ↦ y v k ]
lesser_unclaimed s t u claims None (Some n) is x y = (
  is n ∙ or_right (s n) (t n) y.0,
  y.1,
  λ w lt h. elim (or_cases (s w) (t w) (sym (is w) ∙ h)) [ inl k ↦ x w k | inr k ↦ y.2 w lt k ],
)
lesser_unclaimed s t u claims (Some m) None is x y = (
  is m ∙ or_left (s m) (t m) x.0,
  x.1,
  λ w lt h. elim (or_cases (s w) (t w) (sym (is w) ∙ h)) [ inl k ↦ x.2 w lt k | inr k ↦ y w k ],
)
lesser_unclaimed s t u claims (Some m) (Some n) is x y =
    cond_both (nat_lt n m) (Some n) (Some m) (IsLeastUnclaimed u claims)
    (λ l. (let lower : n < m = (Decides-ltb n m).0 l in (
      is n ∙ or_right (s n) (t n) y.0,
      y.1,
      λ w lt h. elim (or_cases (s w) (t w) (sym (is w) ∙ h)) [ inl k ↦ x.2 w (omega arith) k | inr k ↦ y.2 w lt k ],
    )))
    (λ l. (let upper : ¬ (n < m) = not_from_Decides (nat_lt n m) (Decides-ltb n m) l in (
      is m ∙ or_left (s m) (t m) x.0,
      x.1,
      λ w lt h. elim (or_cases (s w) (t w) (sym (is w) ∙ h)) [
        | inl k ↦ x.2 w lt k
        | inr k ↦ elim (cases_lt w n) [ inl c ↦ y.2 w c k | inr c ↦ absurd (upper (omega arith)) ]
      ],
    )))

-- one vertex
pub own_unclaimed : (claims : List Claim) (v : ℕ) → is_claimed claims v ≡ false → IsLeastUnclaimed (λ w. nat_eq v w) claims (Some v)
own_unclaimed claims v free = ((Decides-eqb v v).1 (λ i. v), free, λ w lt h. absurd (let e : v ≡ w = (Decides-eqb v w).0 h in omega arith))

pub own_claimed : (claims : List Claim) (v : ℕ) → is_claimed claims v ≡ true → IsLeastUnclaimed (λ w. nat_eq v w) claims None
own_claimed claims v held = λ w h. (let e : v ≡ w = (Decides-eqb v w).0 h in subst (λ x. is_claimed claims x ≡ true) e held)

-- one edit more
pub more_touching : (edits : List Edit) (k : ℕ) (e : Edit) → k < length edits → e ≡ get_or edits k e → IsEither (are_touching (take k edits)) (touches e) (are_touching (take (k + 1) edits))
more_touching edits k e hk at v =
    ap (λ (xs : List Edit). list_any (λ x. touches x v) xs) (take_more edits k e hk ∙ ap (λ (x : Edit). take k edits ++ x ∷ []) (sym at))
    ∙ list_any-append (λ x. touches x v) (take k edits) (e ∷ [])
    ∙ ap (λ (b : Bool). are_touching (take k edits) v || b) (or-false (touches e v))

pub none_touching : (claims : List Claim) → IsLeastUnclaimed (are_touching []) claims None
none_touching claims = λ v h. absurd (false≢true h)
