-- The next kept neighbour in the words of the list that goes round.
use Rattle.std.proofs.Common.{◌≡◌, ◌≢◌, ℕ, ◌+◌, ◌-◌, ◌<◌, ◌≤◌, Bool, false, List, length, ◌⊎◌, inl, inr, arith, ap, sym, subst, ◌∙◌, None}
use Rattle.std.proofs.lemmas.Bool.{false≢true, cases_lt}
use Rattle.plane.specs.declared.coordinates.Point.{Point}
use Rattle.star.specs.Stars.{Seen, entry, around, IsFirstKept}
use Rattle.star.specs.declared.links.Link.{Link}
use Rattle.star.specs.Links.{link, HasRightLinks, IsAfterOrNone, IsFirstKeptOrNone}
use Rattle.star.specs.Gaps.{IsKept, ComesSooner, IsKeptAfter}
use Rattle.star.proofs.Listed.{all_round}
use Rattle.std.proofs.lemmas.Bool.{false_from_ne_true}

-- a step round a list comes to a position on this side of the start or on the other
abbrev Steps : (n k e x : ℕ) → Type 0
Steps n k e x = ((k + e + 1 < n) × (x ≡ k + e + 1)) ⊎ ((n ≤ k + e + 1) × (x + n ≡ k + e + 1))

steps : (n k e : ℕ) → k < n → e < n → Steps n k e (around n (k + e + 1))
steps n k e hk he = elim (cases_lt (k + e + 1) n) [
  | inl h ↦ inl (h, grind arith)
  | inr h ↦ inr (h, (let z : around n (k + e + 1) ≡ k + e + 1 - n = grind arith in omega arith))
]

-- what comes after fewer steps isn't after j
not_after : (n k e d x j : ℕ) → k < n → e < d → d < n → Steps n k e x → Steps n k d j → (x ≢ k) × (x ≢ j) × (¬ ComesSooner k j x)
not_after n k e d x j hk ed dn (inl s) (inl t) = (omega arith, omega arith, λ h. elim h [ inl g ↦ omega arith | inr g ↦ elim g [ inl f ↦ omega arith | inr f ↦ omega arith ] ])
not_after n k e d x j hk ed dn (inl s) (inr t) = (omega arith, omega arith, λ h. elim h [ inl g ↦ omega arith | inr g ↦ elim g [ inl f ↦ omega arith | inr f ↦ omega arith ] ])
not_after n k e d x j hk ed dn (inr s) (inl t) = absurd (omega arith)
not_after n k e d x j hk ed dn (inr s) (inr t) = (omega arith, omega arith, λ h. elim h [ inl g ↦ omega arith | inr g ↦ elim g [ inl f ↦ omega arith | inr f ↦ omega arith ] ])

around_within : (n k e x : ℕ) → k < n → e < n → Steps n k e x → x < n
around_within n k e x hk he (inl s) = omega arith
around_within n k e x hk he (inr s) = omega arith

-- the first kept position after k is the first kept one that the list comes to, going round
pub first_kept_of_after : (s : Seen) (k j : ℕ) → k < length s.list → IsKeptAfter s.list k j → IsFirstKept s k (entry s.list j).0
first_kept_of_after s k j hk after =
    let n = length s.list in
    let (d, hd, at) = all_round n k j hk after.kept.0 in
    (d, hd, ap (λ i. entry s.list i) at ∙ ap (λ (b : Bool). let p : ℕ × Bool = ((entry s.list j).0, b) in p) after.kept.1, λ e he. unkept d hd at e he)
  where
    unkept : (d : ℕ) → d < length s.list → around (length s.list) (k + d + 1) ≡ j → (e : ℕ) → e < d → (entry s.list (around (length s.list) (k + e + 1))).1 ≡ false
    unkept d hd at e he =
        let n = length s.list in
        let x = around n (k + e + 1) in
        let sx : Steps n k e x = steps n k e hk (omega arith) in
        let sj : Steps n k d j = subst (λ z. Steps n k d z) at (steps n k d hk hd) in
        let (xk, xj, no_way) = not_after n k e d x j hk he hd sx sj in
        false_from_ne_true (entry s.list x).1 (λ t. no_way (after.first x (around_within n k e x hk (omega arith) sx, t) xk xj))

-- the kept neighbour after a kept one is that which its link names
pub first_kept_named : (s : Seen) (S : List Point) (c : ℕ) (list : List (ℕ × Bool)) (links : List Link) (misses : Bool) (k : ℕ) → list ≡ s.list → HasRightLinks S c list links misses → IsKept s.list k → (l : Link) → l ≡ link links k → IsFirstKept s k l.after
first_kept_named s S c list links misses k e right kk l is =
    let g = right.right k (subst (λ (xs : List (ℕ × Bool)). IsKept xs k) (sym e) kk) in
    let after : IsKeptAfter s.list k g.second = subst (λ (xs : List (ℕ × Bool)). IsKeptAfter xs k g.second) e g.after in
    subst (λ r. IsFirstKept s k r) (ap (λ (xs : List (ℕ × Bool)). (entry xs g.second).0) (sym e) ∙ g.after_name ∙ ap (λ (m : Link). m.after) (sym is)) (first_kept_of_after s k g.second kk.0 after)

-- where no other than an unmarked one is kept, none is
pub none_kept : (s : Seen) (k : ℕ) → (entry s.list k).1 ≡ false → IsAfterOrNone s.list k None → IsFirstKeptOrNone s k None
none_kept s k spare none = λ j hj. false_from_ne_true (entry s.list j).1 (λ t. false≢true (sym spare ∙ ap (λ i. (entry s.list i).1) (sym (none j (hj, t))) ∙ t))
