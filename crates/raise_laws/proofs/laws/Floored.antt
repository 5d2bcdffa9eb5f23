-- The floor certificate is valid, gives each inner point its rows, and has the floor as its value.
use Rattle.std.proofs.Common.{◌≡◌, ◌≢◌, ℕ, zero, suc, ◌+◌, ◌-◌, ◌*◌, ◌<◌, ◌≤◌, ◌⊎◌, inl, inr, pos, List, [], ◌∷◌, ◌++◌, length, get_or, Bool, true, false, cond, sym, ◌∙◌, ap, refl, subst, arith}
use Rattle.std.specs.Prelude.{◌<ℤ◌, ◌≤ℤ◌, ◌-ℤ◌, ◌||◌, ◌&&◌, nat_eq}
use Rattle.std.specs.Int.{div_ceil}
use Rattle.std.specs.List.{AllPairs, AllZip, Contains, flat_map, sum, sum_by}
use Rattle.std.proofs.lemmas.Int.{ints}
use Rattle.std.proofs.lemmas.Bool.{eqb-true}
use Rattle.std.proofs.lemmas.Bool.Decides.{Decides-eqb}
use Rattle.std.proofs.Common.{length-append}
use Rattle.std.proofs.lemmas.List.Sums.{sum_by-cons, sum_by-append}
use Rattle.std.proofs.lemmas.List.Elements.{All-append, All-cons, All-nil, Contains-append_left, Contains-append_right, Contains-get_or}
use Rattle.plane.specs.declared.coordinates.Point.{Point}
use Rattle.plane.specs.First.{IsFirstPair}
use Rattle.plane.specs.Geometry.{point, area, scalar, LiesBetween, IsBetween, IsClear, IsInner, IsInNeed}
use Rattle.plane.proofs.laws.Along.{between_swap, other_side}
use Rattle.plane.proofs.laws.Area.{area_swap, area_back}
use Rattle.number_laws.proofs.Signs.{by_sign, zero_left}
use Rattle.plane_laws.specs.Order.{IsBefore}
use Rattle.plane_laws.proofs.Between.{by_order, between_is_amid}
use Rattle.price_defs.specs.declared.row.Row.{Row}
use Rattle.price_defs.specs.declared.row.Row.TheVariants.{Half, Three}
use Rattle.cost_defs.specs.Costs.{Costed, cost, has_ends}
use Rattle.price_defs.specs.Rows.{IsRight, AreRight, Counts, counts}
use Rattle.price_defs.specs.Loads.{given, gives, IsValid, added, lost, value}
use Rattle.price_defs.specs.Tight.{HasRowsAt, AreCovered}
use Rattle.price_defs.specs.Floor.{IsLeastCost, IsShare, IsFloor, AreFloorRowsAt, IsFloorCertificate}
use Rattle.number_laws.proofs.ListSums.{sum-add, sum-at_most_one, contains_cases, contains_here, contains_later}
use Rattle.price_defs.proofs.laws.Tests.{counts_decides}
use Rattle.plane.proofs.laws.Border.{clear_back}
use Rattle.plane_laws.proofs.Nearest.{not_first_end, not_between_one}
use Rattle.plane.proofs.laws.Line.{same_point}
use Rattle.plane_laws.proofs.Order.{before_asym}

or_turned : (a b : Bool) → (a || b) ≡ (b || a)
or_turned true true = refl
or_turned true false = refl
or_turned false true = refl
or_turned false false = refl

-- the cost of a pair doesn't depend on the order of its ends
pub cost_turned : (D : List Costed) (i j : ℕ) → cost D i j ≡ cost D j i
cost_turned [] i j = refl
cost_turned (x ∷ D) i j =
    ap (λ t. cond t x.1 (cost D i j)) (or_turned (nat_eq x.0.lo i && nat_eq x.0.hi j) (nat_eq x.0.lo j && nat_eq x.0.hi i))
    ∙ ap (λ n. cond (has_ends x.0 j i) x.1 n) (cost_turned D i j)

-- the needs of p for two points that it is between have no point in common
no_both_left : (p q r x : Point) → LiesBetween p q r → pos 0 <ℤ area p q x → pos 0 <ℤ area p r x → ⊥
no_both_left p q r x h a b =
    let s : pos 0 <ℤ area p x q = other_side p q r x h (omega (arith, ints, area_swap p x r)) in
    omega (arith, ints, area_swap p x q)

in_line_through : (p q r x : Point) → LiesBetween p q r → LiesBetween p r x → pos 0 <ℤ area p q x → ⊥
in_line_through p q r x h k a =
    let e : area p r x ≡ pos 0 = omega (arith, ints, k.0, area_back p r x) in
    let f : pos 0 ≤ℤ area p x r = omega (arith, ints, area_swap p x r) in
    by_sign (area p x q)
    (λ g. omega (arith, ints, area_swap p x q))
    (λ g. omega (arith, ints, area_swap p x q))
    (λ g. (let s : pos 0 <ℤ area p x r = other_side p r q x (between_swap p q r h) g in omega (arith, ints, area_swap p x r)))

from_end : (p q x : Point) → q.x ≡ p.x → q.y ≡ p.y → scalar p q x ≡ pos 0
unfolding scalar
from_end p q x ex ey = omega (arith, ints, zero_left (q.x -ℤ p.x) (x.x -ℤ p.x) (omega (arith, ints)), zero_left (q.y -ℤ p.y) (x.y -ℤ p.y) (omega (arith, ints)))

not_same_end : (p q x : Point) → q.x ≡ p.x → q.y ≡ p.y → LiesBetween p q x → ⊥
not_same_end p q x ex ey h = omega (arith, ints, h.1, from_end p q x ex ey)

beyond : (p q x : Point) → LiesBetween p q x → IsBefore q p → IsBefore p x
beyond p q x h b =
    by_order q x (λ l. (between_is_amid p q x l h.0 h.1).1) (λ ex ey. absurd (not_between_one p q (subst (λ z. LiesBetween p q z) (sym (same_point q x ex ey)) h)))
    (λ l. (let k : LiesBetween p x q = between_swap p q x h in absurd (before_asym q p b (between_is_amid p x q l k.0 k.1).1)))

ahead_of : (p q x : Point) → LiesBetween p q x → IsBefore p q → IsBefore x p
ahead_of p q x h b =
    by_order q x (λ l. absurd (before_asym q p (between_is_amid p q x l h.0 h.1).0 b)) (λ ex ey. absurd (not_between_one p q (subst (λ z. LiesBetween p q z) (sym (same_point q x ex ey)) h)))
    (λ l. (let k : LiesBetween p x q = between_swap p q x h in (between_is_amid p x q l k.0 k.1).0))

no_three_ways : (p q r x : Point) → LiesBetween p q r → LiesBetween p q x → LiesBetween p r x → ⊥
no_three_ways p q r x h k m =
    by_order q p
    (λ l. before_asym x p (ahead_of p r x m (beyond p q r h l)) (beyond p q x k l))
    (λ ex ey. not_same_end p q x ex ey k)
    (λ l. before_asym x p (ahead_of p q x k l) (beyond p r x m (ahead_of p q r h l)))

-- No point is in the needs of p for both of two points that p is between.
pub needs_apart : (S : List Point) (p q r x : ℕ) → IsBetween S p q r → IsInNeed S p q x → IsInNeed S p r x → ⊥
needs_apart S p q r x h (a, inl k) (b, inl m) = no_both_left (point S p) (point S q) (point S r) (point S x) h k m
needs_apart S p q r x h (a, inl k) (b, inr m) = in_line_through (point S p) (point S q) (point S r) (point S x) h m k
needs_apart S p q r x h (a, inr k) (b, inl m) = in_line_through (point S p) (point S r) (point S q) (point S x) (between_swap (point S p) (point S q) (point S r) h) k m
needs_apart S p q r x h (a, inr k) (b, inr m) = no_three_ways (point S p) (point S q) (point S r) (point S x) h k m

-- what the rows at p may give to the pair i-j
abbrev limit : (c i j p : ℕ) → ℕ
limit c i j p = cond (nat_eq p i) c 0 + cond (nat_eq p j) c 0

limit_first : (c i j p : ℕ) → p ≡ i → c ≤ limit c i j p
limit_first c i j p e = (let k : cond (nat_eq p i) c 0 ≡ c = ap (λ t. cond t c 0) ((Decides-eqb p i).1 e) in omega arith)

limit_second : (c i j p : ℕ) → p ≡ j → c ≤ limit c i j p
limit_second c i j p e = (let k : cond (nat_eq p j) c 0 ≡ c = ap (λ t. cond t c 0) ((Decides-eqb p j).1 e) in omega arith)

-- a least cost is at most that of each clear pair at p
least_first : (S : List Point) (D : List Costed) (p m i j : ℕ) → IsLeastCost S D p m → i ≡ p → i < j → j < length S → IsClear S i j → m ≤ cost D i j
least_first S D p m i j least e l n c =
    subst (λ x. m ≤ cost D x j) (sym e) (least.least j n (λ g. absurd (omega arith)) (subst (λ x. IsClear S x j) e c))

least_second : (S : List Point) (D : List Costed) (p m i j : ℕ) → IsLeastCost S D p m → j ≡ p → i < j → j < length S → IsClear S i j → m ≤ cost D i j
least_second S D p m i j least e l n c =
    let k : m ≤ cost D j i = subst (λ x. m ≤ cost D x i) (sym e) (least.least i (omega arith) (λ g. absurd (omega arith)) (subst (λ x. IsClear S x i) e (clear_back S i j c))) in
    omega (arith, cost_turned D i j)

one_end : (S : List Point) (D : List Costed) (p m i j : ℕ) → IsLeastCost S D p m → i < j → j < length S → IsClear S i j → (i ≡ p) ⊎ (j ≡ p) → m ≤ limit (cost D i j) i j p
one_end S D p m i j least l n c (inl e) = omega (arith, least_first S D p m i j least e l n c, limit_first (cost D i j) i j p (sym e))
one_end S D p m i j least l n c (inr e) = omega (arith, least_second S D p m i j least e l n c, limit_second (cost D i j) i j p (sym e))

sum_one : (f : Row → ℕ) (x : Row) → sum_by f (x ∷ []) ≡ f x
sum_one f x = omega arith

sum_two : (f : Row → ℕ) (x y : Row) → sum_by f (x ∷ y ∷ []) ≡ f x + f y
sum_two f x y = omega arith

counted_end : (S : List Point) (p q w i j : ℕ) → Counts S (Half p q w) i j → (i ≡ p) ⊎ (j ≡ p)
counted_end S p q w i j (inl h) = inl h.0
counted_end S p q w i j (inr h) = inr h.0

both_counted : (S : List Point) (p q r w i j : ℕ) → i < j → IsBetween S p q r → Counts S (Half p q w) i j → Counts S (Half p r w) i j → ⊥
both_counted S p q r w i j l b (inl h) (inl k) = needs_apart S p q r j b h.1 k.1
both_counted S p q r w i j l b (inl h) (inr k) = omega (arith, h.0, k.0)
both_counted S p q r w i j l b (inr h) (inl k) = omega (arith, h.0, k.0)
both_counted S p q r w i j l b (inr h) (inr k) = needs_apart S p q r i b h.1 k.1

three_gives : (S : List Point) (D : List Costed) (p m i j : ℕ) → IsLeastCost S D p m → i < j → j < length S → IsClear S i j → given S i j (Three p m) ≤ limit (cost D i j) i j p
three_gives S D p m i j least l n c =
    elim (counts S (Three p m) i j) as (λ t. counts S (Three p m) i j ≡ t → cond t m 0 ≤ limit (cost D i j) i j p) [
      | true ↦ λ e. one_end S D p m i j least l n c ((counts_decides S (Three p m) i j).0 e)
      | false ↦ λ e. omega arith
    ] refl

halves_give : (S : List Point) (D : List Costed) (p q r m i j : ℕ) → IsLeastCost S D p m → IsBetween S p q r → i < j → j < length S → IsClear S i j
    → given S i j (Half p q m) + given S i j (Half p r m) ≤ limit (cost D i j) i j p
halves_give S D p q r m i j least b l n c =
    elim (counts S (Half p q m) i j) as (λ t. counts S (Half p q m) i j ≡ t → cond t m 0 + given S i j (Half p r m) ≤ limit (cost D i j) i j p) [
      | true ↦ λ e. elim (counts S (Half p r m) i j) as (λ u. counts S (Half p r m) i j ≡ u → m + cond u m 0 ≤ limit (cost D i j) i j p) [
        | true ↦ λ f. absurd (both_counted S p q r m i j l b ((counts_decides S (Half p q m) i j).0 e) ((counts_decides S (Half p r m) i j).0 f))
        | false ↦ λ f. omega (arith, one_end S D p m i j least l n c (counted_end S p q m i j ((counts_decides S (Half p q m) i j).0 e)))
      ] refl
      | false ↦ λ e. elim (counts S (Half p r m) i j) as (λ u. counts S (Half p r m) i j ≡ u → 0 + cond u m 0 ≤ limit (cost D i j) i j p) [
        | true ↦ λ f. omega (arith, one_end S D p m i j least l n c (counted_end S p r m i j ((counts_decides S (Half p r m) i j).0 f)))
        | false ↦ λ f. omega arith
      ] refl
    ] refl

part_gives : (S : List Point) (D : List Costed) (p i j : ℕ) (part : List Row) → AreFloorRowsAt S D p part → i < j → j < length S → IsClear S i j → gives S part i j ≤ limit (cost D i j) i j p
part_gives S D p i j part (m, least, inl h) l n c =
    subst (λ x. gives S x i j ≤ limit (cost D i j) i j p) (sym h.1) (omega (arith, sum_one (given S i j) (Three p m), three_gives S D p m i j least l n c))
part_gives S D p i j part (m, least, inr h) l n c =
    subst (λ x. gives S x i j ≤ limit (cost D i j) i j p) (sym h.3)
    (omega (arith, sum_two (given S i j) (Half p h.0 m) (Half p h.1 m), halves_give S D p h.0 h.1 m i j least (first_holds S p h.0 h.1 h.2) l n c))
  where
    first_holds : (S : List Point) (p q r : ℕ) → IsFirstPair (λ i j. IsBetween S p i j) (length S) q r → IsBetween S p q r
    first_holds S p q r f = f.holds

parts_give : (S : List Point) (D : List Costed) (i j : ℕ) (ps : List ℕ) (parts : List (List Row)) → AllZip (AreFloorRowsAt S D) ps parts → i < j → j < length S → IsClear S i j
    → gives S (flat_map (λ part. part) parts) i j ≤ sum_by (limit (cost D i j) i j) ps
parts_give S D i j [] [] h l n c = omega arith
parts_give S D i j [] (x ∷ xs) h l n c = absurd h
parts_give S D i j (p ∷ ps) [] h l n c = absurd h
parts_give S D i j (p ∷ ps) (x ∷ xs) h l n c =
    omega (arith, sum_by-append (given S i j) x (flat_map (λ part. part) xs), sum_by-cons (limit (cost D i j) i j) p ps, part_gives S D p i j x h.0 l n c, parts_give S D i j ps xs h.1 l n c)

rising_distinct : (ps : List ℕ) → AllPairs (λ p q. p < q) ps → AllPairs (λ (p q : ℕ). p ≢ q) ps
rising_distinct ps h i j d l m e = absurd (omega (arith, h i j d l m, e))

ends_twice : (c i j : ℕ) (ps : List ℕ) → AllPairs (λ p q. p < q) ps → sum_by (limit c i j) ps ≤ 2 * c
ends_twice c i j ps h =
    omega (
      arith,
      sum-add (λ p. cond (nat_eq p i) c 0) (λ p. cond (nat_eq p j) c 0) ps,
      sum-at_most_one (λ p. nat_eq p i) c ps (rising_distinct ps h) (λ x y cx cy hx hy. eqb-true x i hx ∙ sym (eqb-true y i hy)),
      sum-at_most_one (λ p. nat_eq p j) c ps (rising_distinct ps h) (λ x y cx cy hx hy. eqb-true x j hx ∙ sym (eqb-true y j hy)),
    )

-- an ascending list of numbers below n has at most n of them
rising_least : (ps : List ℕ) (k : ℕ) → AllPairs (λ p q. p < q) ps → k < length ps → k ≤ get_or ps k 0
rising_least ps zero h l = omega arith
rising_least ps (suc k) h l = omega (arith, rising_least ps k h (omega arith), h k (suc k) 0 (omega arith) l)

rising_few : (ps : List ℕ) (n : ℕ) → AllPairs (λ p q. p < q) ps → ((p : ℕ) → Contains ps p → p < n) → length ps ≤ n
rising_few ps n h below = by_length (length ps) refl
  where
    by_length : (k : ℕ) → length ps ≡ k → k ≤ n
    by_length zero e = omega arith
    by_length (suc k) e =
        (let l : k < length ps = omega arith in
        omega (arith, rising_least ps k h l, below (get_or ps k 0) (Contains-get_or ps k 0 l)))

part_length : (S : List Point) (D : List Costed) (p : ℕ) (part : List Row) → AreFloorRowsAt S D p part → length part ≤ 2
part_length S D p part (m, least, inl h) = omega (arith, ap length h.1)
part_length S D p part (m, least, inr h) = omega (arith, ap length h.3)

parts_length : (S : List Point) (D : List Costed) (ps : List ℕ) (parts : List (List Row)) → AllZip (AreFloorRowsAt S D) ps parts → length (flat_map (λ part. part) parts) ≤ 2 * length ps
parts_length S D [] [] h = omega arith
parts_length S D [] (x ∷ xs) h = absurd h
parts_length S D (p ∷ ps) [] h = absurd h
parts_length S D (p ∷ ps) (x ∷ xs) h = omega (arith, length-append x (flat_map (λ part. part) xs), part_length S D p x h.0, parts_length S D ps xs h.1)

part_right : (S : List Point) (D : List Costed) (p : ℕ) (part : List Row) → p < length S → IsInner S p → AreFloorRowsAt S D p part → AreRight S part
part_right S D p part n inner (m, least, inl h) =
    subst (AreRight S) (sym h.1) (All-cons (IsRight S) (Three p m) [] (n, inner, h.0) (All-nil (IsRight S)))
part_right S D p part n inner (m, least, inr (q, r, first, is)) =
    subst (AreRight S) (sym is)
    (All-cons (IsRight S) (Half p q m) (Half p r m ∷ [])
    (n, omega (arith, first.ordered, first.within), (λ e. not_first_end S p r (subst (λ x. IsBetween S p x r) e first.holds)), inner)
    (All-cons (IsRight S) (Half p r m) []
    (n, first.within, (λ e. not_first_end S p q (between_swap (point S p) (point S q) (point S p) (subst (λ x. IsBetween S p q x) e first.holds))), inner) (All-nil (IsRight S))))

parts_right : (S : List Point) (D : List Costed) (ps : List ℕ) (parts : List (List Row)) → ((p : ℕ) → Contains ps p → (p < length S) × IsInner S p) → AllZip (AreFloorRowsAt S D) ps parts
    → AreRight S (flat_map (λ part. part) parts)
parts_right S D [] [] inner h = All-nil (IsRight S)
parts_right S D [] (x ∷ xs) inner h = absurd h
parts_right S D (p ∷ ps) [] inner h = absurd h
parts_right S D (p ∷ ps) (x ∷ xs) inner h =
    let i : (p < length S) × IsInner S p = inner p (contains_here p ps) in
    All-append (IsRight S) x (flat_map (λ part. part) xs) (part_right S D p x i.0 i.1 h.0) (parts_right S D ps xs (λ y c. inner y (contains_later p ps y c)) h.1)

-- The floor certificate is valid.
pub floor_valid : (S : List Point) (D : List Costed) (q : ℕ) (rows : List Row) → length S ≤ 5000 → IsFloorCertificate S D q rows → IsValid S D q rows
floor_valid S D q rows few (ps, parts, list, zip, two, is) =
    subst (λ x. IsValid S D x rows) (sym two) (subst (IsValid S D 2) (sym is) (record {
      divisor = omega arith;
      count = omega (arith, parts_length S D ps parts zip, rising_few ps (length S) list.ascending (λ p c. (let i : (p < length S) × IsInner S p = (list.exact p).0 c in i.0)));
      right = parts_right S D ps parts (λ p c. (list.exact p).0 c) zip;
      loads = λ i j l n c b. omega (arith, ints, parts_give S D i j ps parts zip l n c, ends_twice (cost D i j) i j ps list.ascending);
    }))

part_rows : (S : List Point) (D : List Costed) (p : ℕ) (part : List Row) → AreFloorRowsAt S D p part → HasRowsAt S part p
part_rows S D p part (m, least, inl h) = inl (m, subst (λ x. Contains x (Three p m)) (sym h.1) (contains_here (Three p m) []))
part_rows S D p part (m, least, inr (q, r, first, is)) =
    inr (
      q,
      r,
      m,
      m,
      subst (λ x. Contains x (Half p q m)) (sym is) (contains_here (Half p q m) (Half p r m ∷ [])),
      subst (λ x. Contains x (Half p r m)) (sym is) (contains_later (Half p q m) (Half p r m ∷ []) (Half p r m) (contains_here (Half p r m) [])),
      first.holds,
    )

rows_left : (S : List Point) (p : ℕ) (xs ys : List Row) → HasRowsAt S xs p → HasRowsAt S (xs ++ ys) p
rows_left S p xs ys (inl h) = inl (h.0, Contains-append_left xs ys (Three p h.0) h.1)
rows_left S p xs ys (inr (q, r, v, w, a, b, t)) = inr (q, r, v, w, Contains-append_left xs ys (Half p q v) a, Contains-append_left xs ys (Half p r w) b, t)

rows_right : (S : List Point) (p : ℕ) (xs ys : List Row) → HasRowsAt S ys p → HasRowsAt S (xs ++ ys) p
rows_right S p xs ys (inl h) = inl (h.0, Contains-append_right xs ys (Three p h.0) h.1)
rows_right S p xs ys (inr (q, r, v, w, a, b, t)) = inr (q, r, v, w, Contains-append_right xs ys (Half p q v) a, Contains-append_right xs ys (Half p r w) b, t)

parts_rows : (S : List Point) (D : List Costed) (ps : List ℕ) (parts : List (List Row)) (p : ℕ) → AllZip (AreFloorRowsAt S D) ps parts → Contains ps p → HasRowsAt S (flat_map (λ part. part) parts) p
parts_rows S D [] [] p h c = absurd (omega (arith, c.1))
parts_rows S D [] (x ∷ xs) p h c = absurd h
parts_rows S D (y ∷ ps) [] p h c = absurd h
parts_rows S D (y ∷ ps) (x ∷ xs) p h c =
    elim (contains_cases y ps p c) [
      | inl e ↦ rows_left S p x (flat_map (λ part. part) xs) (subst (λ z. HasRowsAt S x z) e (part_rows S D y x h.0))
      | inr k ↦ rows_right S p x (flat_map (λ part. part) xs) (parts_rows S D ps xs p h.1 k)
    ]

-- It has rows for each inner point.
pub floor_covered : (S : List Point) (D : List Costed) (q : ℕ) (rows : List Row) → IsFloorCertificate S D q rows → AreCovered S rows
floor_covered S D q rows (ps, parts, list, zip, two, is) p n inner =
    subst (λ x. HasRowsAt S x p) (sym is) (parts_rows S D ps parts p zip ((list.exact p).1 (n, inner)))

part_share : (S : List Point) (D : List Costed) (p : ℕ) (part : List Row) → AreFloorRowsAt S D p part → IsShare S D p (sum_by added part) × (sum_by lost part ≡ 0)
part_share S D p part (m, least, inl h) =
    ((m, least, inl (h.0, ap (sum_by added) h.1 ∙ sum_one added (Three p m))), ap (sum_by lost) h.1 ∙ sum_one lost (Three p m))
part_share S D p part (m, least, inr (q, r, first, is)) = (
  (m, least, inr ((λ alone. alone q r (omega (arith, first.ordered, first.within)) first.within first.holds), omega (arith, ap (sum_by added) is, sum_two added (Half p q m) (Half p r m)))),
  omega (arith, ap (sum_by lost) is, sum_two lost (Half p q m) (Half p r m)),
)

-- the shares of the points
record HasShares (S : List Point) (D : List Costed) (ps : List ℕ) (rows : List Row) : Type 0 where
  pub shares : List ℕ
  pub each : AllZip (IsShare S D) ps shares
  pub total : sum_by added rows ≡ sum shares
  pub none : sum_by lost rows ≡ 0

parts_share : (S : List Point) (D : List Costed) (ps : List ℕ) (parts : List (List Row)) → AllZip (AreFloorRowsAt S D) ps parts → HasShares S D ps (flat_map (λ part. part) parts)
parts_share S D [] [] h = record { shares = []; each = tt; total = refl; none = refl }
parts_share S D [] (x ∷ xs) h = absurd h
parts_share S D (p ∷ ps) [] h = absurd h
parts_share S D (p ∷ ps) (x ∷ xs) h =
    let a : IsShare S D p (sum_by added x) × (sum_by lost x ≡ 0) = part_share S D p x h.0 in
    let b : HasShares S D ps (flat_map (λ part. part) xs) = parts_share S D ps xs h.1 in
    record {
      shares = sum_by added x ∷ b.shares;
      each = (a.0, b.each);
      total = omega (arith, sum_by-append added x (flat_map (λ part. part) xs), sum_by-cons (λ (n : ℕ). n) (sum_by added x) b.shares, b.total);
      none = omega (arith, sum_by-append lost x (flat_map (λ part. part) xs), a.1, b.none);
    }

-- Its value is the floor.
pub floor_value : (S : List Point) (D : List Costed) (h q : ℕ) (rows : List Row) → IsFloorCertificate S D q rows → IsFloor S D h (value h q rows)
floor_value S D h q rows (ps, parts, list, zip, two, is) =
    let s : HasShares S D ps (flat_map (λ part. part) parts) = parts_share S D ps parts zip in
    let e : sum_by added rows - sum_by lost rows ≡ sum s.shares = omega (arith, ap (sum_by added) is, ap (sum_by lost) is, s.total, s.none) in
    (ps, s.shares, list, s.each, ap (λ n. h + div_ceil n q) e ∙ ap (λ n. h + div_ceil (sum s.shares) n) two)
