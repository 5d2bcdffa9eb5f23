-- The floor certificate, point by point.
use Rattle.std.proofs.Common.{◌≡◌, ◌≢◌, ℕ, ◌+◌, ◌<◌, ◌≤◌, inl, inr, List, [], ◌∷◌, ◌++◌, length, get_or, Option, Some, None, sym, ◌∙◌, ap, refl, subst, arith, append_assoc}
use Rattle.std.specs.List.{All, AllZip, Contains, flat_map, sum_by}
use Rattle.std.proofs.lemmas.List.Sums.{sum_by-append}
use Rattle.std.proofs.lemmas.Bool.{cases_lt}
use Rattle.std.proofs.lemmas.Grind.{flat_map-append}
use Rattle.std.proofs.lemmas.List.{append-nil}
use Rattle.std.proofs.lemmas.List.Elements.{All-append, All-cons, All-nil, Contains-push, Contains-push_cases, Contains-append_left, Contains-get_or}
use Rattle.std.proofs.lemmas.List.Quantifiers.{all_pairs_push}
use Rattle.plane.specs.declared.coordinates.Point.{Point}
use Rattle.plane.specs.Accepted.{AreAccepted}
use Rattle.plane.specs.First.{IsFirstPair}
use Rattle.plane.specs.Geometry.{IsBetween, IsClear, IsInner}
use Rattle.cost_defs.specs.Costs.{Costed, cost}
use Rattle.price_defs.specs.declared.row.Row.{Row}
use Rattle.price_defs.specs.declared.row.Row.TheVariants.{Half, Three}
use Rattle.price_defs.specs.Rows.{weight}
use Rattle.price_defs.specs.Loads.{lost}
use Rattle.price_defs.specs.Floor.{IsLeastCost, AreFloorRowsAt, IsFloorCertificate}
use Rattle.number_laws.proofs.Naturals.{another}
use Rattle.plane_laws.proofs.Nearest.{HasNearest, nearest}
use Rattle.price_defs.proofs.laws.Alone.{alone_of_none}
use Rattle.dual_prices.specs.Rooms.{AreCheap}
use Rattle.dual_prices.proofs.laws.Rooms.{cheap_cost}
use Rattle.dual_prices.proofs.laws.Inner.{inner_more, inner_less}
use Rattle.dual_prices.specs.Floors.{IsLeastCostBelow, IsInnerListBelow, AreFloorRowsBelow, HasFloorRowsAt}

zip_push : {A B : Type 0} (R : A → B → Type 0) (xs : List A) (ys : List B) (x : A) (y : B) → AllZip R xs ys → R x y → AllZip R (xs ++ x ∷ []) (ys ++ y ∷ [])
zip_push R [] [] x y h r = (r, tt)
zip_push R (a ∷ xs) [] x y h r = absurd h
zip_push R [] (b ∷ ys) x y h r = absurd h
zip_push R (a ∷ xs) (b ∷ ys) x y h r = (h.0, zip_push R xs ys x y h.1 r)

joined_push : {A : Type 0} (parts : List (List A)) (part : List A) → flat_map (λ (x : List A). x) (parts ++ part ∷ []) ≡ flat_map (λ (x : List A). x) parts ++ part
joined_push parts part = flat_map-append (λ x. x) parts (part ∷ []) ∙ ap (λ x. flat_map (λ y. y) parts ++ x) (append-nil part)

-- the rows of one inner point more
pub floor_more : (S : List Point) (D : List Costed) (k : ℕ) (old new : List Row) → IsInner S k → AreFloorRowsBelow S D k old → HasFloorRowsAt S D k old new → AreFloorRowsBelow S D (k + 1) new
floor_more S D k old new inner below has = record {
  ps = below.ps ++ k ∷ [];
  parts = below.parts ++ has.part ∷ [];
  inner = inner_more S k below.ps inner below.inner;
  each = zip_push (AreFloorRowsAt S D) below.ps below.parts k has.part below.each has.rows;
  joined = has.added ∙ ap (λ x. x ++ has.part) below.joined ∙ sym (joined_push below.parts has.part);
  light = subst (All (λ (row : Row). weight row ≤ 1000)) (sym has.added) (All-append (λ (row : Row). weight row ≤ 1000) old has.part below.light has.light);
  takers = omega (arith, ap (sum_by lost) has.added, sum_by-append lost old has.part, below.takers, has.takers);
}

pub floor_less : (S : List Point) (D : List Costed) (k : ℕ) (rows : List Row) → ¬ IsInner S k → AreFloorRowsBelow S D k rows → AreFloorRowsBelow S D (k + 1) rows
floor_less S D k rows outer below = record {
  ps = below.ps;
  parts = below.parts;
  inner = inner_less S k below.ps outer below.inner;
  each = below.each;
  joined = below.joined;
  light = below.light;
  takers = below.takers;
}

pub floor_none : (S : List Point) (D : List Costed) → AreFloorRowsBelow S D 0 []
floor_none S D = record {
  ps = [];
  parts = [];
  inner = record { ascending = λ i j d l m. absurd (omega arith); exact = λ p. (λ c. absurd (omega (arith, c.1)), λ h. absurd (omega (arith, h.0))) };
  each = tt;
  joined = refl;
  light = λ k d l. absurd (omega arith);
  takers = refl;
}

pub floor_all : (S : List Point) (D : List Costed) (rows : List Row) → AreFloorRowsBelow S D (length S) rows → IsFloorCertificate S D 2 rows
floor_all S D rows below = (below.ps, below.parts, record { ascending = below.inner.ascending; exact = below.inner.exact }, below.each, refl, below.joined)

-- least costs
pub cost_taken : (S : List Point) (D : List Costed) (p r m : ℕ) (best : Option ℕ) → r < length S → r ≢ p → IsClear S p r → cost D p r ≡ m → ((b : ℕ) → best ≡ Some b → m ≤ b)
    → IsLeastCostBelow S D p r best → IsLeastCostBelow S D p (r + 1) (Some m)
cost_taken S D p r m None rn ne clear is less least = (
  (r, rn, ne, clear, is),
  λ s l a c. elim (cases_lt s r) [
    | inl h ↦ absurd (least s h a c)
    | inr h ↦ (let e : s ≡ r = omega arith in omega (arith, is, ap (cost D p) e))
  ],
)
cost_taken S D p r m (Some b) rn ne clear is less least = (
  (r, rn, ne, clear, is),
  λ s l a c. elim (cases_lt s r) [
    | inl h ↦ omega (arith, least.1 s h a c, less b refl)
    | inr h ↦ (let e : s ≡ r = omega arith in omega (arith, is, ap (cost D p) e))
  ],
)

pub cost_kept : (S : List Point) (D : List Costed) (p r b : ℕ) → b ≤ cost D p r → IsLeastCostBelow S D p r (Some b) → IsLeastCostBelow S D p (r + 1) (Some b)
cost_kept S D p r b le least = (
  least.0,
  λ s l a c. elim (cases_lt s r) [
    | inl h ↦ least.1 s h a c
    | inr h ↦ (let e : s ≡ r = omega arith in omega (arith, le, ap (cost D p) e))
  ],
)

pub cost_passed : (S : List Point) (D : List Costed) (p r : ℕ) (best : Option ℕ) → (r ≢ p → ¬ IsClear S p r) → IsLeastCostBelow S D p r best → IsLeastCostBelow S D p (r + 1) best
cost_passed S D p r None miss least = λ s l a c. elim (cases_lt s r) [
  | inl h ↦ least s h a c
  | inr h ↦ (let e : s ≡ r = omega arith in miss (subst (λ x. x ≢ p) e a) (subst (IsClear S p) e c))
]
cost_passed S D p r (Some b) miss least = (
  least.0,
  λ s l a c. elim (cases_lt s r) [
    | inl h ↦ least.1 s h a c
    | inr h ↦ (let e : s ≡ r = omega arith in absurd (miss (subst (λ x. x ≢ p) e a) (subst (IsClear S p) e c)))
  ],
)

pub cost_least : (S : List Point) (D : List Costed) (p m : ℕ) → IsLeastCostBelow S D p (length S) (Some m) → IsLeastCost S D p m
cost_least S D p m ((r, rn, ne, clear, is), least) = record { r = r; within = rn; apart = ne; clear = clear; is = is; least = least }

-- each point has a clear pair
pub some_clear : (S : List Point) (D : List Costed) (p : ℕ) → AreAccepted S → p < length S → IsLeastCostBelow S D p (length S) None → ⊥
some_clear S D p ok pn none =
    let q : (q : ℕ) × (q < length S) × (q ≢ p) = another (length S) p (omega (arith, ok.count.0)) in
    let h : HasNearest S p q.0 = nearest S p q.0 ok pn q.1 q.2 in
    none h.b h.within h.apart h.clear

-- where no costs are listed the least cost is 1
pub unit_least : (S : List Point) (D : List Costed) (p : ℕ) → AreAccepted S → p < length S → length D ≡ 0 → IsLeastCost S D p 1
unit_least S [] p ok pn none =
    let q : (q : ℕ) × (q < length S) × (q ≢ p) = another (length S) p (omega (arith, ok.count.0)) in
    let h : HasNearest S p q.0 = nearest S p q.0 ok pn q.1 q.2 in
    record { r = h.b; within = h.within; apart = h.apart; clear = h.clear; is = refl; least = λ s sn ne clear. omega arith }
unit_least S (x ∷ D) p ok pn none = absurd (omega (arith, none))

below_small : (S : List Point) (D : List Costed) (p k m : ℕ) → AreCheap D → IsLeastCostBelow S D p k (Some m) → m ≤ 1000
below_small S D p k m cheap ((r, rn, ne, clear, is), least) = omega (arith, is, cheap_cost D p r cheap)

pub least_small : (S : List Point) (D : List Costed) (p m : ℕ) → AreCheap D → IsLeastCostBelow S D p (length S) (Some m) → m ≤ 1000
least_small S D p m cheap h = below_small S D p (length S) m cheap h

pub three_rows : (S : List Point) (D : List Costed) (p m : ℕ) (old new : List Row) → IsLeastCost S D p m → m ≤ 1000 → ((i j : ℕ) → i < j → j < length S → ¬ IsBetween S p i j) → new ≡ old ++ Three p m ∷ [] → HasFloorRowsAt S D p old new
three_rows S D p m old new least small none is = record {
  part = Three p m ∷ [];
  rows = (m, least, inl (alone_of_none S p none, refl));
  added = is;
  light = All-cons (λ row. weight row ≤ 1000) (Three p m) [] small (All-nil (λ row. weight row ≤ 1000));
  takers = refl;
}

pub half_rows : (S : List Point) (D : List Costed) (p m q r : ℕ) (old new : List Row) → IsLeastCost S D p m → m ≤ 1000 → IsFirstPair (λ i j. IsBetween S p i j) (length S) q r
    → new ≡ (old ++ Half p q m ∷ []) ++ Half p r m ∷ [] → HasFloorRowsAt S D p old new
half_rows S D p m q r old new least small first is = record {
  part = Half p q m ∷ Half p r m ∷ [];
  rows = (m, least, inr (q, r, first, refl));
  added = is ∙ append_assoc old (Half p q m ∷ []) (Half p r m ∷ []);
  light = All-cons (λ row. weight row ≤ 1000) (Half p q m) (Half p r m ∷ []) small (All-cons (λ row. weight row ≤ 1000) (Half p r m) [] small (All-nil (λ row. weight row ≤ 1000)));
  takers = refl;
}
