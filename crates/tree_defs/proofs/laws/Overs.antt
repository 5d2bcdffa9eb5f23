-- Steps of the node tests.
use Rattle.std.proofs.Common.{◌≡◌, ◌↔◌, ℕ, ◌+◌, ◌*◌, ◌<◌, ◌≤◌, inl, inr, List, length, min, max, pos, get_or, sym, ◌∙◌, subst, arith}
use Rattle.std.specs.Prelude.{◌≤ℤ◌, ◌<ℤ◌, ◌-ℤ◌}
use Rattle.std.specs.List.{All, Contains}
use Rattle.std.proofs.lemmas.Int.{ints}
use Rattle.std.proofs.lemmas.Bool.{cases_lt}
use Rattle.std.proofs.lemmas.List.{get_or_default}
use Rattle.partition_defs.specs.Partition.{Joins, HasEnds}
use Rattle.price_defs.proofs.laws.Counted.{ends_same}
use Rattle.plane.specs.declared.coordinates.Point.{Point}
use Rattle.plane.specs.declared.segment.Pair.{Pair}
use Rattle.plane.proofs.laws.Pairs.{pair_same}
use Rattle.price_defs.specs.declared.row.Row.{Row}
use Rattle.cost_defs.specs.Costs.{Costed, cost}
use Rattle.price_defs.specs.Loads.{gives, takes, load}
use Rattle.tree_defs.specs.Leaves.{Sets, CrossesSome, ArePrices}
use Rattle.tree_defs.proofs.laws.Bound.{crossing_turned}
use Rattle.tree_defs.specs.Plain.{IsFit, IsOver}

pub cross_turned : (S : List Point) (A : List Pair) (i j : ℕ) → CrossesSome S A i j → CrossesSome S A j i
cross_turned S A i j (f, c, x) = (f, c, crossing_turned S i j f.lo f.hi x)

pub cross_of_min_max : (S : List Point) (A : List Pair) (p r lo hi : ℕ) → lo ≡ min p r → hi ≡ max p r → CrossesSome S A lo hi ↔ CrossesSome S A p r
cross_of_min_max S A p r lo hi a b =
    elim (cases_lt p r) [
      | inl l ↦ (let x : lo ≡ p = omega (arith, a, l) in let y : hi ≡ r = omega (arith, b, l) in (
        λ h. subst (λ z. CrossesSome S A z r) x (subst (λ z. CrossesSome S A lo z) y h),
        λ h. subst (λ z. CrossesSome S A z hi) (sym x) (subst (λ z. CrossesSome S A p z) (sym y) h),
      ))
      | inr g ↦ (let x : lo ≡ r = omega (arith, a, g) in let y : hi ≡ p = omega (arith, b, g) in (
        λ h. cross_turned S A r p (subst (λ z. CrossesSome S A z p) x (subst (λ z. CrossesSome S A lo z) y h)),
        λ h. subst (λ z. CrossesSome S A z hi) (sym x) (subst (λ z. CrossesSome S A r z) (sym y) (cross_turned S A p r h)),
      ))
    ]

-- one more second end
pub over_step : (S : List Point) (D : List Costed) (s : Sets) (q : ℕ) (rows : List Row) (i j : ℕ) (f : Pair) → f.lo ≡ i → f.hi ≡ j
    → ¬ IsOver S D s q rows f → ((e : Pair) → e.lo ≡ i → e.hi < j → ¬ IsOver S D s q rows e) → (e : Pair) → e.lo ≡ i → e.hi < j + 1 → ¬ IsOver S D s q rows e
over_step S D s q rows i j f lo hi not all e a b over =
    elim (cases_lt e.hi j) [
      | inl l ↦ all e a l over
      | inr g ↦ not (subst (IsOver S D s q rows) (pair_same e f (a ∙ sym lo) (omega (arith, hi, b, g))) over)
    ]

over_of : (g t m : ℕ) → m + t < g → pos m <ℤ (pos g -ℤ pos t)
over_of g t m h = omega (arith, ints, h)

low_of : (g t m : ℕ) → g ≤ m + t → (pos g -ℤ pos t) ≤ℤ pos m
low_of g t m h = omega (arith, ints, h)

within_of : (g t m : ℕ) → ¬ (pos m <ℤ (pos g -ℤ pos t)) → (pos g -ℤ pos t) ≤ℤ pos m
within_of g t m none = elim (cases_lt (m + t) g) [ inl l ↦ absurd (none (over_of g t m l)) | inr h ↦ low_of g t m h ]

-- rows that are fit, and no segment that has too much
pub prices_of : (S : List Point) (D : List Costed) (s : Sets) (q : ℕ) (rows : List Row) → 0 < q → q ≤ 1000000 → length rows ≤ 100 → All (IsFit S) rows
    → ((e : Pair) → e.hi < length S → ¬ IsOver S D s q rows e) → ArePrices S D s q rows
prices_of S D s q rows a b c fit none =
    record {
      divisor = a;
      small = b;
      few = c;
      light = λ k d l. (fit k d l).0;
      right = λ k d l. (fit k d l).1;
      loads = λ e n clear off new bar.
          within_of (gives S rows e.lo e.hi) (takes rows e.lo e.hi) (q * cost D e.lo e.hi) (λ h. none e n ((clear, off, new, bar), h));
    }

pub not_over : (S : List Point) (D : List Costed) (s : Sets) (q : ℕ) (rows : List Row) (e : Pair) → ArePrices S D s q rows → e.hi < length S → ¬ IsOver S D s q rows e
not_over S D s q rows e p n ((clear, off, new, bar), more) =
    let l : load S rows e.lo e.hi ≤ℤ pos (q * cost D e.lo e.hi) = p.loads e n clear off new bar in omega (arith, ints, l, more)

pub joins_is_contains : (K : List Pair) (e : Pair) (i j : ℕ) → i ≡ e.lo → j ≡ e.hi → Joins K i j ↔ Contains K e
joins_is_contains K e i j a b = (
  (λ h. subst (Contains K) (ends_same h.1 e (subst (λ z. HasEnds h.1 z e.hi) a (subst (λ z. HasEnds h.1 i z) b h.4))) (h.0, h.2, h.3)),
  (λ c. (c.0, e, c.1, c.2, inl (sym a, sym b))),
)

pub all_of_items : {X : Type 0} (P : X → Type 0) (xs : List X) → ((k : ℕ) (y : X) → k < length xs → get_or xs k y ≡ y → P y) → All P xs
all_of_items P xs h k d l = h k (get_or xs k d) l (get_or_default xs k (get_or xs k d) d l)

-- one more first end
pub over_row : (S : List Point) (D : List Costed) (s : Sets) (q : ℕ) (rows : List Row) (i : ℕ)
    → ¬ ((e : Pair) × (e.lo ≡ i) × (e.hi < length S) × IsOver S D s q rows e) → ((e : Pair) → e.lo < i → e.hi < length S → ¬ IsOver S D s q rows e)
    → (e : Pair) → e.lo < i + 1 → e.hi < length S → ¬ IsOver S D s q rows e
over_row S D s q rows i not all e a n over =
    elim (cases_lt e.lo i) [ inl l ↦ all e l n over | inr g ↦ not (e, omega (arith, a, g), n, over) ]

pub over_refuses : (S : List Point) (D : List Costed) (s : Sets) (q i : ℕ) (rows seen : List Row) → seen ≡ rows
    → ((e : Pair) × (e.lo ≡ i) × (e.hi < length S) × IsOver S D s q seen e) → ¬ ArePrices S D s q rows
over_refuses S D s q i rows seen same (e, a, n, over) p = not_over S D s q rows e p n (subst (λ r. IsOver S D s q r e) same over)

pub prices_seen : (S : List Point) (D : List Costed) (s : Sets) (q k : ℕ) (rows seen : List Row) → seen ≡ rows → 0 < q → q ≤ 1000000 → length seen ≤ 100 → All (IsFit S) seen
    → length S ≤ k → ((e : Pair) → e.lo < k → e.hi < length S → ¬ IsOver S D s q seen e) → ArePrices S D s q rows
prices_seen S D s q k rows seen same a b c fit n none =
    subst (ArePrices S D s q) same (prices_of S D s q seen a b c fit (λ e m. none e (omega (arith, e.ordered, m, n)) m))
