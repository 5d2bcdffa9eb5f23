-- The best certificate is valid, tight, of at least the floor, and one.
use Rattle.std.proofs.Common.{◌≡◌, ℕ, zero, suc, ◌+◌, ◌<◌, ◌≤◌, inl, inr, List, length, sym, ◌∙◌, ap, subst, arith}
use Rattle.std.specs.Prelude.{slice_index_or}
use Rattle.std.specs.List.{IsFirstMaxByKey}
use Rattle.std.proofs.lemmas.List.{get_or_default}
use Rattle.std.proofs.lemmas.Bool.{cases_order}
use Rattle.plane.specs.declared.coordinates.Point.{Point}
use Rattle.plane.specs.Accepted.{AreAccepted}
use Rattle.cost_defs.specs.Costs.{Costed}
use Rattle.price_defs.specs.declared.row.Row.{Row}
use Rattle.price_defs.specs.declared.row.Certificate.{Certificate}
use Rattle.price_defs.specs.Loads.{IsValid, value}
use Rattle.price_defs.specs.Floor.{IsFloor}
use Rattle.price_defs.specs.Raising.{IsRaisedFloor}
use Rattle.raise_laws.specs.Laws.{IsGood}
use Rattle.raise_laws.proofs.laws.Floored.{floor_valid, floor_covered, floor_value}
use Rattle.raise_laws.proofs.laws.Raises.{raised_valid}
use Rattle.raise_laws.proofs.laws.Tightened.{raised_tight, raised_value}
use Rattle.raise_laws.proofs.laws.Once.{inner_once, raised_floor_once}
use Rattle.search_defs.specs.Words.{round_words}
use Rattle.search_defs.specs.Priced.{IsPriced}
use Rattle.search_defs.specs.Best.{IsPricedBy, AreCandidates, IsBest}
use Rattle.search_defs.proofs.laws.Scaled.{priced_good}
use Rattle.search_defs.proofs.laws.Once.{priced_once}

-- valid, tight, and of at least the floor
abbrev pub IsAboveFloor : List Point → List Costed → Certificate → Type 0
IsAboveFloor S D C = IsGood S D C.q C.rows × ((h : ℕ) → (f : ℕ) × IsFloor S D h f × (f ≤ value h C.q C.rows))

-- the raised floor certificate is
raised_above : (S : List Point) (D : List Costed) (C : Certificate) → AreAccepted S → IsRaisedFloor S D C.q C.rows → IsAboveFloor S D C
raised_above S D C accepted (rows, floor, raised) =
    let v : IsValid S D C.q rows = floor_valid S D C.q rows accepted.count.1 floor in (
      record { valid = raised_valid S D C.q rows C.rows raised v; tight = raised_tight S D C.q rows C.rows raised v (floor_covered S D C.q rows floor) },
      λ h. (value h C.q rows, floor_value S D h C.q rows floor, raised_value S D h C.q rows C.rows v.divisor raised),
    )

-- and what a bound worker makes of one that is
priced_above : (S : List Point) (D : List Costed) (start C : Certificate) (rounds seed stream : ℕ) → AreAccepted S → IsAboveFloor S D start → IsPricedBy S D start rounds seed stream C → IsAboveFloor S D C
priced_above S D start C rounds seed stream accepted (good, above) (inner, list, priced) = (
  (priced_good S D 0 inner (round_words stream seed 0 rounds) start.q start.rows C.q C.rows accepted.count.0 list priced good).0,
  λ h.
      let a : (f : ℕ) × IsFloor S D h f × (f ≤ value h start.q start.rows) = above h in
      let b : value h start.q start.rows ≤ value h C.q C.rows = (priced_good S D h inner (round_words stream seed 0 rounds) start.q start.rows C.q C.rows accepted.count.0 list priced good).1 in
      (a.0, a.1, omega (arith, a.2, b)),
)

-- each candidate is
found_above : (S : List Point) (D : List Costed) (workers rounds seed k : ℕ) (found : List Certificate) (d : Certificate) → AreAccepted S → AreCandidates S D workers rounds seed found → k < workers + 1
    → IsAboveFloor S D (slice_index_or found k d)
found_above S D workers rounds seed zero found d accepted c low =
    subst (IsAboveFloor S D) (sym c.first ∙ get_or_default found 0 c.raised d (let n : length found ≡ workers + 1 = c.count in omega arith)) (raised_above S D c.raised accepted c.floor)
found_above S D workers rounds seed (suc k) found d accepted c low =
    subst (IsAboveFloor S D) (get_or_default found (suc k) c.raised d (let n : length found ≡ workers + 1 = c.count in omega arith))
    (priced_above S D c.raised (slice_index_or found (suc k) c.raised) rounds seed (100 + suc k) accepted (raised_above S D c.raised accepted c.floor)
    (c.others (suc k) (omega arith) (omega arith)))

pub best_above : (S : List Point) (D : List Costed) (workers rounds seed : ℕ) (C : Certificate) → AreAccepted S → IsBest S D workers rounds seed C → IsAboveFloor S D C
best_above S D workers rounds seed C accepted (found, k, c, first, is) = subst (IsAboveFloor S D) is (found_above S D workers rounds seed k found C accepted c first.0)

same_certificate : (a b : Certificate) → a.q ≡ b.q → a.rows ≡ b.rows → a ≡ b
same_certificate a b e f = ap (λ (q : ℕ). record { q = q; rows = a.rows }) e ∙ ap (λ (rows : List Row). record { q = b.q; rows = rows }) f

-- what a bound worker makes of a certificate is one
priced_one : (S : List Point) (D : List Costed) (start a b : Certificate) (rounds seed stream : ℕ) → IsPricedBy S D start rounds seed stream a → IsPricedBy S D start rounds seed stream b → (a.q ≡ b.q) × (a.rows ≡ b.rows)
priced_one S D start a b rounds seed stream x y =
    priced_once S D x.0 (round_words stream seed 0 rounds) start.q start.rows a.q b.q a.rows b.rows x.2
    (subst (λ (inner : List ℕ). IsPriced S D inner (round_words stream seed 0 rounds) start.q start.rows b.q b.rows) (inner_once S y.0 x.0 y.1 x.1) y.2)

-- the candidates are one list
same_found : (S : List Point) (D : List Costed) (workers rounds seed k : ℕ) (a b : List Certificate) (d : Certificate) → AreCandidates S D workers rounds seed a → AreCandidates S D workers rounds seed b → k < workers + 1
    → slice_index_or a k d ≡ slice_index_or b k d
same_found S D workers rounds seed k a b d x y low =
    get_or_default a k d x.raised (let n : length a ≡ workers + 1 = x.count in omega arith) ∙ same k low ∙ get_or_default b k y.raised d (let n : length b ≡ workers + 1 = y.count in omega arith)
  where
    raised : x.raised ≡ y.raised
    raised = let e = raised_floor_once S D x.raised.q y.raised.q x.raised.rows y.raised.rows x.floor y.floor in same_certificate x.raised y.raised e.0 e.1

    same : (k : ℕ) → k < workers + 1 → slice_index_or a k x.raised ≡ slice_index_or b k y.raised
    same zero low = x.first ∙ raised ∙ sym y.first
    same (suc k) low =
        let p : IsPricedBy S D x.raised rounds seed (100 + suc k) (slice_index_or a (suc k) x.raised) = x.others (suc k) (omega arith) (omega arith) in
        let q : IsPricedBy S D x.raised rounds seed (100 + suc k) (slice_index_or b (suc k) y.raised) =
        subst (λ (z : Certificate). IsPricedBy S D z rounds seed (100 + suc k) (slice_index_or b (suc k) y.raised)) (sym raised) (y.others (suc k) (omega arith) (omega arith)) in
        let e = priced_one S D x.raised (slice_index_or a (suc k) x.raised) (slice_index_or b (suc k) y.raised) rounds seed (100 + suc k) p q in
        same_certificate (slice_index_or a (suc k) x.raised) (slice_index_or b (suc k) y.raised) e.0 e.1

-- the first of the greatest stands at one place
same_first : (f : Certificate → ℕ) (n i k : ℕ) (a b : List Certificate) (d : Certificate) → ((m : ℕ) → m < n → slice_index_or a m d ≡ slice_index_or b m d) → IsFirstMaxByKey f a n i → IsFirstMaxByKey f b n k → i ≡ k
same_first f n i k a b d same x y = elim (cases_order i k) [
  | inl is ↦ is
  | inr (inl low) ↦ absurd (
      let p : f (slice_index_or b i d) < f (slice_index_or b k d) = y.2 i d low in
      let q : f (slice_index_or a k d) ≤ f (slice_index_or a i d) = x.1 k d y.0 in
      let u : f (slice_index_or a i d) ≡ f (slice_index_or b i d) = ap f (same i x.0) in
      let v : f (slice_index_or a k d) ≡ f (slice_index_or b k d) = ap f (same k y.0) in
      omega (arith, p, q, u, v))
  | inr (inr high) ↦ absurd (
      let p : f (slice_index_or a k d) < f (slice_index_or a i d) = x.2 k d high in
      let q : f (slice_index_or b i d) ≤ f (slice_index_or b k d) = y.1 i d x.0 in
      let u : f (slice_index_or a i d) ≡ f (slice_index_or b i d) = ap f (same i x.0) in
      let v : f (slice_index_or a k d) ≡ f (slice_index_or b k d) = ap f (same k y.0) in
      omega (arith, p, q, u, v))
]

pub one_best : (S : List Point) (D : List Costed) (workers rounds seed : ℕ) (C O : Certificate) → IsBest S D workers rounds seed C → IsBest S D workers rounds seed O → C ≡ O
one_best S D workers rounds seed C O (a, i, x, m, is) (b, k, y, n, also) =
    let place : i ≡ k = same_first (λ c. value 0 c.q c.rows) (workers + 1) i k a b C (λ j low. same_found S D workers rounds seed j a b C x y low) m n in
    sym is
    ∙ same_found S D workers rounds seed i a b C x y m.0
    ∙ ap (λ (j : ℕ). slice_index_or b j C) place
    ∙ get_or_default b k C O (let e : length b ≡ workers + 1 = y.count in let low : k < workers + 1 = n.0 in omega arith)
    ∙ also
