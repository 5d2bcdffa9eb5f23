-- The floor certificate and its raising are one each.
use Rattle.std.proofs.Common.{◌≡◌, ◌↔◌, ℕ, zero, suc, ◌<◌, ◌≤◌, inl, inr, List, [], ◌∷◌, length, get_or, sym, ◌∙◌, ap, ap₂, refl, subst, arith}
use Rattle.std.specs.List.{AllPairs, AllZip, Contains, flat_map}
use Rattle.std.proofs.lemmas.Bool.{cases_lt}
use Rattle.plane.specs.declared.coordinates.Point.{Point}
use Rattle.plane.specs.First.{IsFirstPair}
use Rattle.plane.specs.Geometry.{IsBetween}
use Rattle.price_defs.specs.declared.row.Row.{Row}
use Rattle.price_defs.specs.declared.row.Row.TheVariants.{Half, Three}
use Rattle.cost_defs.specs.Costs.{Costed}
use Rattle.price_defs.specs.Floor.{IsInnerList, IsLeastCost, AreFloorRowsAt, IsFloorCertificate}
use Rattle.price_defs.specs.Raising.{AreRaised, IsRaisedFloor}
use Rattle.number_laws.proofs.ListSums.{contains_cases, contains_here, contains_later}
use Rattle.raise_laws.proofs.laws.Tightened.{raised_once}

rising_tail : (x : ℕ) (xs : List ℕ) → AllPairs (λ p q. p < q) (x ∷ xs) → AllPairs (λ p q. p < q) xs
rising_tail x xs h i j d l m = h (suc i) (suc j) d (omega arith) (omega arith)

rising_head : (x : ℕ) (xs : List ℕ) (y : ℕ) → AllPairs (λ p q. p < q) (x ∷ xs) → Contains xs y → x < y
rising_head x xs y h c = (let l : x < slice_at xs c.0 y = h zero (suc c.0) y (omega arith) (omega (arith, c.1)) in subst (λ z. x < z) c.2 l)
  where
    slice_at : List ℕ → ℕ → ℕ → ℕ
    slice_at xs k d = get_or xs k d

not_in_nil : (y : ℕ) → ¬ Contains [] y
not_in_nil y c = omega (arith, c.1)

-- rising lists with the same numbers are the same
pub rising_same : (xs ys : List ℕ) → AllPairs (λ p q. p < q) xs → AllPairs (λ p q. p < q) ys → ((z : ℕ) → Contains xs z ↔ Contains ys z) → xs ≡ ys
rising_same [] [] h k same = refl
rising_same [] (y ∷ ys) h k same = absurd (not_in_nil y ((same y).1 (contains_here y ys)))
rising_same (x ∷ xs) [] h k same = absurd (not_in_nil x ((same x).0 (contains_here x xs)))
rising_same (x ∷ xs) (y ∷ ys) h k same =
    let low : y ≤ x = elim (contains_cases y ys x ((same x).0 (contains_here x xs))) [ inl e ↦ omega arith | inr c ↦ omega (arith, rising_head y ys x k c) ] in
    let high : x ≤ y = elim (contains_cases x xs y ((same y).1 (contains_here y ys))) [ inl e ↦ omega arith | inr c ↦ omega (arith, rising_head x xs y h c) ] in
    let e : x ≡ y = omega arith in
    ap₂ (λ a b. a ∷ b) e (rising_same xs ys (rising_tail x xs h) (rising_tail y ys k) (λ z. (
      λ c. elim (contains_cases y ys z ((same z).0 (contains_later x xs z c))) [ inl f ↦ absurd (omega (arith, rising_head x xs z h c)) | inr m ↦ m ],
      λ c. elim (contains_cases x xs z ((same z).1 (contains_later y ys z c))) [ inl f ↦ absurd (omega (arith, rising_head y ys z k c)) | inr m ↦ m ],
    )))

pub inner_once : (S : List Point) (a b : List ℕ) → IsInnerList S a → IsInnerList S b → a ≡ b
inner_once S a b x y = rising_same a b x.ascending y.ascending (λ z. (λ c. (y.exact z).1 ((x.exact z).0 c), λ c. (x.exact z).1 ((y.exact z).0 c)))

least_once : (S : List Point) (D : List Costed) (p m n : ℕ) → IsLeastCost S D p m → IsLeastCost S D p n → m ≡ n
least_once S D p m n x y = omega (arith, x.is, y.is, x.least y.r y.within y.apart y.clear, y.least x.r x.within x.apart x.clear)

first_once : (R : ℕ → ℕ → Type 0) (n i j k l : ℕ) → IsFirstPair R n i j → IsFirstPair R n k l → (i ≡ k) × (j ≡ l)
first_once R n i j k l x y =
    elim (cases_lt i k) [
      | inl a ↦ absurd (y.before i j x.ordered x.within (inl a) x.holds)
      | inr g ↦ elim (cases_lt k i) [
        | inl a ↦ absurd (x.before k l y.ordered y.within (inl a) y.holds)
        | inr h ↦ (let a : i ≡ k = omega arith in
            elim (cases_lt j l) [
              | inl b ↦ absurd (y.before i j x.ordered x.within (inr (a, b)) x.holds)
              | inr u ↦ elim (cases_lt l j) [
                | inl b ↦ absurd (x.before k l y.ordered y.within (inr (sym a, b)) y.holds)
                | inr v ↦ (a, omega arith)
              ]
            ])
      ]
    ]

part_once : (S : List Point) (D : List Costed) (p : ℕ) (a b : List Row) → AreFloorRowsAt S D p a → AreFloorRowsAt S D p b → a ≡ b
part_once S D p a b (m, x, inl h) (n, y, inl k) = h.1 ∙ ap (λ z. Three p z ∷ []) (least_once S D p m n x y) ∙ sym k.1
part_once S D p a b (m, x, inl h) (n, y, inr (q, r, first, is)) = absurd (h.0 q r (omega (arith, first.ordered, first.within)) first.within first.holds)
part_once S D p a b (m, x, inr (q, r, first, is)) (n, y, inl k) = absurd (k.0 q r (omega (arith, first.ordered, first.within)) first.within first.holds)
part_once S D p a b (m, x, inr (q, r, first, is)) (n, y, inr (s, t, other, so)) =
    let e : (q ≡ s) × (r ≡ t) = first_once (λ i j. IsBetween S p i j) (length S) q r s t first other in
    is ∙ ap (λ z. Half p z m ∷ Half p r m ∷ []) e.0 ∙ ap (λ z. Half p s m ∷ Half p z m ∷ []) e.1 ∙ ap (λ z. Half p s z ∷ Half p t z ∷ []) (least_once S D p m n x y) ∙ sym so

parts_once : (S : List Point) (D : List Costed) (ps : List ℕ) (a b : List (List Row)) → AllZip (AreFloorRowsAt S D) ps a → AllZip (AreFloorRowsAt S D) ps b → a ≡ b
parts_once S D [] [] [] h k = refl
parts_once S D [] (x ∷ a) b h k = absurd h
parts_once S D [] [] (y ∷ b) h k = absurd k
parts_once S D (p ∷ ps) [] b h k = absurd h
parts_once S D (p ∷ ps) (x ∷ a) [] h k = absurd k
parts_once S D (p ∷ ps) (x ∷ a) (y ∷ b) h k = ap₂ (λ u v. u ∷ v) (part_once S D p x y h.0 k.0) (parts_once S D ps a b h.1 k.1)

-- The floor certificate is one.
pub floor_once : (S : List Point) (D : List Costed) (q r : ℕ) (a b : List Row) → IsFloorCertificate S D q a → IsFloorCertificate S D r b → (q ≡ r) × (a ≡ b)
floor_once S D q r a b (ps, xs, list, zip, two, is) (qs, ys, more, other, also, so) =
    let e : ps ≡ qs = inner_once S ps qs list more in
    (two ∙ sym also, is ∙ ap (flat_map (λ part. part)) (parts_once S D qs xs ys (subst (λ z. AllZip (AreFloorRowsAt S D) z xs) e zip) other) ∙ sym so)

-- RAISED is one.
pub raised_floor_once : (S : List Point) (D : List Costed) (q r : ℕ) (a b : List Row) → IsRaisedFloor S D q a → IsRaisedFloor S D r b → (q ≡ r) × (a ≡ b)
raised_floor_once S D q r a b (x, floor, raised) (y, other, also) =
    let e : (q ≡ r) × (x ≡ y) = floor_once S D q r x y floor other in
    (e.0, raised_once S D r y a b (subst (λ z. AreRaised S D r z a) e.1 (subst (λ n. AreRaised S D n x a) e.0 raised)) also)
