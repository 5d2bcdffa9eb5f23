-- What tests of halves and of orientation say together of the turning order.
use Rattle.std.proofs.Common.{◌≡◌, ◌≢◌, ℕ, List, pos, ◌<ℤ◌, inl, inr, ◌↔◌, Bool, true, false, IsTrue, sym, ◌∙◌, refl, subst}
use Rattle.std.proofs.lemmas.Bool.{false≢true}
use mathlib.Core.Bool.{beq}
use Rattle.plane.specs.declared.coordinates.Point.{Point}
use Rattle.plane.specs.Geometry.{point, area}
use Rattle.star.specs.Turn.{IsUpper, IsLower, TurnsBefore, IsBeforeInTurn, IsInDirection}
use Rattle.star.proofs.laws.Turning.{not_both, upper_or_lower, not_together, not_together_after}

-- what two tests of the upper half say together
pub decided_same : (c q r : Point) (b d e : Bool) → q ≢ c → r ≢ c → (IsTrue b ↔ IsUpper c q) → (IsTrue d ↔ IsUpper c r) → b ≡ d → (IsTrue e ↔ (pos 0 <ℤ area c q r)) → IsTrue e ↔ TurnsBefore c q r
decided_same c q r true d e hq hr hb hd same he = (λ t. inr (inl (hb.0 refl, hd.0 (sym same)), he.0 t), λ k. he.1 (left k))
  where
    left : TurnsBefore c q r → pos 0 <ℤ area c q r
    left (inl k) = absurd (not_both c r (hd.0 (sym same)) k.1)
    left (inr k) = k.1
decided_same c q r false d e hq hr hb hd same he = (λ t. inr (inr (below q false hq hb refl, below r d hr hd (sym same)), he.0 t), λ k. he.1 (left k))
  where
    below : (p : Point) (b : Bool) → p ≢ c → (IsTrue b ↔ IsUpper c p) → b ≡ false → IsLower c p
    below p b apart h f = elim (upper_or_lower c p apart) [ inl u ↦ absurd (false≢true (sym f ∙ h.1 u)) | inr l ↦ l ]

    left : TurnsBefore c q r → pos 0 <ℤ area c q r
    left (inl k) = absurd (false≢true (hb.1 k.0))
    left (inr k) = k.1

pub decided_other : (c q r : Point) (b d : Bool) → q ≢ c → r ≢ c → (IsTrue b ↔ IsUpper c q) → (IsTrue d ↔ IsUpper c r) → b ≢ d → IsTrue b ↔ TurnsBefore c q r
decided_other c q r true true hq hr hb hd ne = absurd (ne refl)
decided_other c q r true false hq hr hb hd ne = (λ _. inl (hb.0 refl, elim (upper_or_lower c r hr) [ inl u ↦ absurd (false≢true (hd.1 u)) | inr l ↦ l ]), λ _. refl)
decided_other c q r false true hq hr hb hd ne = (λ t. absurd (false≢true t), λ k. absurd (no k))
  where
    no : TurnsBefore c q r → ⊥
    no (inl k) = false≢true (hb.1 k.0)
    no (inr (inl k, z)) = false≢true (hb.1 k.0)
    no (inr (inr k, z)) = not_both c r (hd.0 refl) k.1
decided_other c q r false false hq hr hb hd ne = absurd (ne refl)

pub same_bits : (b d : Bool) → beq b d ≡ true → b ≡ d
same_bits true true e = refl
same_bits true false e = absurd (false≢true e)
same_bits false true e = absurd (false≢true e)
same_bits false false e = refl

pub other_bits : (b d : Bool) → beq b d ≡ false → b ≢ d
other_bits true true e = absurd (false≢true (sym e))
other_bits true false e = λ h. false≢true (sym h)
other_bits false true e = λ h. false≢true h
other_bits false false e = absurd (false≢true (sym e))

pub apart_before : (S S' : List Point) (c c' q r r' : ℕ) → S ≡ S' → c ≡ c' → r ≡ r' → IsBeforeInTurn S c q r → ¬ IsInDirection S' c' r' q
apart_before S S' c c' q r r' eS ec er h =
    let P : List Point → Type 0 = λ T. ¬ IsInDirection T c' r' q in
    let Q : ℕ → Type 0 = λ d. ¬ IsInDirection S d r' q in
    let R : ℕ → Type 0 = λ t. ¬ IsInDirection S c t q in
    subst P eS (subst Q ec (subst R er (not_together_after (point S c) (point S r) (point S q) h)))

pub apart_after : (S S' : List Point) (c c' q r r' : ℕ) → S ≡ S' → c ≡ c' → r ≡ r' → IsBeforeInTurn S c r q → ¬ IsInDirection S' c' r' q
apart_after S S' c c' q r r' eS ec er h =
    let P : List Point → Type 0 = λ T. ¬ IsInDirection T c' r' q in
    let Q : ℕ → Type 0 = λ d. ¬ IsInDirection S d r' q in
    let R : ℕ → Type 0 = λ t. ¬ IsInDirection S c t q in
    subst P eS (subst Q ec (subst R er (not_together (point S c) (point S r) (point S q) h)))
