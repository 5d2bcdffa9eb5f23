-- The result of the price rule is one.
use Rattle.std.proofs.Common.{◌≡◌, ◌≢◌, ℕ, ◌%◌, ◌⊎◌, inl, inr, List, [], ◌∷◌, ◌++◌, length, Bool, true, false, sym, ◌∙◌, ap, ap₂, refl, subst}
use Rattle.std.specs.Prelude.{◌||◌, slice_index, ◌-◌}
use Rattle.std.specs.List.{list_any}
use Rattle.std.proofs.lemmas.Bool.{true≢false, or_parts}
use Rattle.plane.specs.declared.coordinates.Point.{Point}
use Rattle.price_defs.specs.declared.row.Row.{Row}
use Rattle.cost_defs.specs.Costs.{Costed}
use Rattle.price_defs.specs.Raising.{IsRaisedRow, AreRaised}
use Rattle.search_defs.specs.Priced.{is_half, lowered, opened, IsLifted, IsTrial, taken_of, other_than, IsRound, AreRounds, factor, scaled, IsPriced}
use Rattle.raise_laws.proofs.laws.Tightened.{row_once, raised_once}

-- a list splits once at the first element that passes
record SplitsOnce (b1 a1 b2 a2 : List Row) (x y : Row) : Type 0 where
  pub before : b1 ≡ b2
  pub same : x ≡ y
  pub after : a1 ≡ a2

split_once : (t : Row → Bool) (b1 a1 b2 a2 : List Row) (x y : Row) → b1 ++ x ∷ a1 ≡ b2 ++ y ∷ a2 → list_any t b1 ≡ false → list_any t b2 ≡ false → t x ≡ true → t y ≡ true → SplitsOnce b1 a1 b2 a2 x y
split_once t [] a1 [] a2 x y e f g hx hy = record { before = refl; same = cc; after = cc }
split_once t [] a1 (z ∷ b2) a2 x y e f g hx hy =
    let s : x ≡ z = cc in absurd (true≢false (sym hx ∙ ap t s ∙ (or_parts (t z) (list_any t b2) g).0))
split_once t (z ∷ b1) a1 [] a2 x y e f g hx hy =
    let s : z ≡ y = cc in absurd (true≢false (sym hy ∙ ap t (sym s) ∙ (or_parts (t z) (list_any t b1) f).0))
split_once t (z ∷ b1) a1 (w ∷ b2) a2 x y e f g hx hy =
    let s : z ≡ w = cc in
    let r : b1 ++ x ∷ a1 ≡ b2 ++ y ∷ a2 = cc in
    let ih : SplitsOnce b1 a1 b2 a2 x y = split_once t b1 a1 b2 a2 x y r (or_parts (t z) (list_any t b1) f).1 (or_parts (t w) (list_any t b2) g).1 hx hy in
    record { before = ap₂ (λ u v. u ∷ v) s ih.before; same = ih.same; after = ih.after }

there : (t : Row → Bool) (b a : List Row) (x : Row) → t x ≡ true → list_any t (b ++ x ∷ a) ≡ true
there t [] a x h = ap (λ c. c || list_any t a) h
there t (y ∷ b) a x h = elim (t y) as (λ c. (c || list_any t (b ++ x ∷ a)) ≡ true) [ true ↦ refl | false ↦ there t b a x h ]

lifted_once : (S : List Point) (D : List Costed) (q p r : ℕ) (rows a b : List Row) → IsLifted S D q p r rows a → IsLifted S D q p r rows b → a ≡ b
lifted_once S D q p r rows a b (inl h) (inl k) = h.1 ∙ sym k.1
lifted_once S D q p r rows a b (inl h) (inr (b2, a2, y, n, is, none, it, raised, so)) =
    absurd (true≢false (sym (there (is_half p r) b2 a2 y it) ∙ ap (list_any (is_half p r)) (sym is) ∙ h.0))
lifted_once S D q p r rows a b (inr (b1, a1, x, m, is, none, it, raised, so)) (inl k) =
    absurd (true≢false (sym (there (is_half p r) b1 a1 x it) ∙ ap (list_any (is_half p r)) (sym is) ∙ k.0))
lifted_once S D q p r rows a b (inr (b1, a1, x, m, is, none, it, raised, so)) (inr (b2, a2, y, n, is2, none2, it2, raised2, so2)) =
    let s : SplitsOnce b1 a1 b2 a2 x y = split_once (is_half p r) b1 a1 b2 a2 x y (sym is ∙ is2) none none2 it it2 in
    let e : m ≡ n = row_once S D q rows y m n (subst (λ z. IsRaisedRow S D q rows z m) s.same raised) raised2 in
    so ∙ ap (λ z. z ++ m ∷ a1) s.before ∙ ap (λ z. b2 ++ z ∷ a1) e ∙ ap (λ z. b2 ++ n ∷ z) s.after ∙ sym so2

trial_once : (S : List Point) (D : List Costed) (q p r : ℕ) (rows a b : List Row) → IsTrial S D q p r rows a → IsTrial S D q p r rows b → a ≡ b
trial_once S D q p r rows a b (m, x, h) (n, y, k) =
    raised_once S D q n a b (subst (λ z. AreRaised S D q z a) (lifted_once S D q p r (opened p r (lowered p rows)) m n x y) h) k

round_once : (S : List Point) (D : List Costed) (q : ℕ) (inner : List ℕ) (u v : ℕ) (rows a b : List Row) → IsRound S D q inner u v rows a → IsRound S D q inner u v rows b → a ≡ b
round_once S D q inner u v rows a b (m, x, h) (n, y, k) =
    h ∙ ap (taken_of q rows) (trial_once S D q (slice_index inner (u % length inner)) (other_than (slice_index inner (u % length inner)) (v % (length S - 1))) rows m n x y) ∙ sym k

rounds_once : (S : List Point) (D : List Costed) (q : ℕ) (inner : List ℕ) (words : List (ℕ × ℕ)) (rows a b : List Row) → AreRounds S D q inner words rows a → AreRounds S D q inner words rows b → a ≡ b
rounds_once S D q inner [] rows a b x y = x ∙ sym y
rounds_once S D q inner (w ∷ words) rows a b (m, x, h) (n, y, k) =
    rounds_once S D q inner words n a b (subst (λ z. AreRounds S D q inner words z a) (round_once S D q inner w.0 w.1 rows m n x y) h) k

neither : {P : Type 0} (words : List (ℕ × ℕ)) (inner : List ℕ) → (words ≡ []) ⊎ (inner ≡ []) → words ≢ [] → inner ≢ [] → P
neither words inner (inl e) f g = absurd (f e)
neither words inner (inr e) f g = absurd (g e)

-- The result of the price rule is one.
pub priced_once : (S : List Point) (D : List Costed) (inner : List ℕ) (words : List (ℕ × ℕ)) (q : ℕ) (rows : List Row) (Q R : ℕ) (a b : List Row)
    → IsPriced S D inner words q rows Q a → IsPriced S D inner words q rows R b → (Q ≡ R) × (a ≡ b)
priced_once S D inner words q rows Q R a b (inl x) (inl y) = (x.1 ∙ sym y.1, x.2 ∙ sym y.2)
priced_once S D inner words q rows Q R a b (inl x) (inr y) = neither words inner x.0 y.0 y.1
priced_once S D inner words q rows Q R a b (inr x) (inl y) = neither words inner y.0 x.0 x.1
priced_once S D inner words q rows Q R a b (inr x) (inr y) =
    let e : Q ≡ R = x.2 ∙ sym y.2 in
    (e, rounds_once S D R inner words (scaled (factor q rows) rows) a b (subst (λ n. AreRounds S D n inner words (scaled (factor q rows) rows) a) e x.3) y.3)
