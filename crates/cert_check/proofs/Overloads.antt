-- Pairs with more than is allowed, one after the other.
use Rattle.std.proofs.Common.{◌≡◌, ℕ, ◌+◌, ◌*◌, ◌<◌, ◌≤◌, inl, inr, ℤ, pos, List, length, min, max, Some, None, sym, ◌∙◌, ap, subst, arith}
use Rattle.std.specs.Prelude.{◌-ℤ◌}
use Rattle.std.proofs.lemmas.Bool.{cases_lt}
use Rattle.std.proofs.lemmas.Int.{ints}
use Rattle.plane.specs.declared.coordinates.Point.{Point}
use Rattle.plane.specs.declared.segment.Pair.{Pair}
use Rattle.plane.specs.Geometry.{IsClear}
use Rattle.cost_defs.specs.Costs.{Costed, cost}
use Rattle.price_defs.specs.declared.row.Row.{Row}
use Rattle.price_defs.specs.Rows.{AreRight}
use Rattle.price_defs.specs.Limits.{AreLight}
use Rattle.price_defs.specs.Loads.{gives, takes, load}
use Rattle.price_defs.specs.Faults.{IsOver}
use Rattle.price_defs.proofs.laws.Counted.{border_free}
use Rattle.price_defs.proofs.laws.Values.{takes_le}
use Rattle.point_rows.specs.Takers.{taken}
use Rattle.given_sums.specs.Sums.{Strip}
use Rattle.cert_check.specs.declared.overload.Loaded.{Loaded}
use Rattle.cert_check.specs.Overloads.{AreKept, IsExcess, IsFirstOverFrom, IsFirstOverOf, IsFirstOver}

-- what a pair has and what it may have
pub record HasNumbers (S : List Point) (D : List Costed) (q : ℕ) (rows : List Row) (i j allowed given taken : ℕ) : Type 0 where
  pub allows : allowed ≡ q * cost D i j
  pub gets : given ≡ gives S rows i j
  pub loses : taken ≡ takes rows i j

-- the sums of a strip of these rows
pub kept_of : (S : List Point) (rows : List Row) (sums : Strip) (T : List (Pair × ℕ)) → sums.points ≡ S → sums.rows ≡ rows → AreRight S rows → length rows ≤ 200000 → AreLight rows → ((i j : ℕ) → taken T i j ≡ takes rows i j)
    → AreKept S sums T
kept_of S rows sums T p r right few light takers = record {
  points = sym p;
  right = subst (AreRight S) (sym r) right;
  few = subst (λ (x : List Row). length x ≤ 200000) (sym r) few;
  light = subst AreLight (sym r) light;
  takers = λ i j. takers i j ∙ ap (λ (x : List Row). takes x i j) (sym r);
}

pub kept_numbers : (S : List Point) (D : List Costed) (q : ℕ) (sums : Strip) (T : List (Pair × ℕ)) (i j allowed given off : ℕ) → AreKept S sums T → allowed ≡ q * cost D i j → given ≡ gives sums.points sums.rows i j → off ≡ taken T i j
    → HasNumbers S D q sums.rows i j allowed given off
kept_numbers S D q sums T i j allowed given off kept a g t = record {
  allows = a;
  gets = g ∙ ap (λ (X : List Point). gives X sums.rows i j) (sym kept.points);
  loses = t ∙ kept.takers i j;
}

pub kept_small : (S : List Point) (sums : Strip) (T : List (Pair × ℕ)) (i j : ℕ) → AreKept S sums T → taken T i j ≤ 200000000000000000
kept_small S sums T i j kept = omega (arith, kept.takers i j, takes_le sums.rows i j kept.light kept.few)

pub not_over_given : (S : List Point) (D : List Costed) (q : ℕ) (rows : List Row) (i j allowed given : ℕ) → allowed ≡ q * cost D i j → given ≡ gives S rows i j → given ≤ allowed → ¬ IsOver S D q rows i j
not_over_given S D q rows i j allowed given a g le o = omega (arith, ints, o.2, a, g)

pub not_over_taken : (S : List Point) (D : List Costed) (q : ℕ) (rows : List Row) (i j allowed given taken : ℕ) → HasNumbers S D q rows i j allowed given taken → given ≤ allowed + taken → ¬ IsOver S D q rows i j
not_over_taken S D q rows i j allowed given taken n le o = omega (arith, ints, o.2, n.allows, n.gets, n.loses)

pub is_over : (S : List Point) (D : List Costed) (q : ℕ) (rows : List Row) (i j allowed given taken : ℕ) → HasNumbers S D q rows i j allowed given taken → AreRight S rows → i < j → j < length S → IsClear S i j → allowed + taken < given
    → IsOver S D q rows i j × ((pos given -ℤ pos taken) ≡ load S rows i j)
is_over S D q rows i j allowed given taken n right ij jn clear more =
    ((clear, (λ b. omega (arith, n.gets, border_free S rows i j right b ij jn)), omega (arith, ints, n.allows, n.gets, n.loses)), omega (arith, ints, n.gets, n.loses))

-- the first of the pairs with one lesser end
pub first_from : (S : List Point) (D : List Costed) (q : ℕ) (rows : List Row) (i j n : ℕ) (e : Pair) (l : ℤ) → i < j → j < n → e.lo ≡ min i j → e.hi ≡ max i j → IsExcess S D q rows e.lo e.hi (Some l)
    → ((k : ℕ) → i < k → k < j → ¬ IsOver S D q rows i k) → IsFirstOverFrom S D q rows i n (Some (record { pair = e; load = l }))
first_from S D q rows i j n e l ij jn lo hi over before =
    (omega arith, omega arith, over.0, over.1, λ k ik kh. before k ik (omega arith))

pub none_from_more : (S : List Point) (D : List Costed) (q : ℕ) (rows : List Row) (i j : ℕ) (e : Pair) → i < j → e.lo ≡ min i j → e.hi ≡ max i j → IsExcess S D q rows e.lo e.hi None
    → ((k : ℕ) → i < k → k < j → ¬ IsOver S D q rows i k) → (k : ℕ) → i < k → k < j + 1 → ¬ IsOver S D q rows i k
none_from_more S D q rows i j e ij lo hi none before k ik kj = elim (cases_lt k j) [
  | inl l ↦ before k ik l
  | inr g ↦
      let a : e.lo ≡ i = omega arith in
      let b : e.hi ≡ k = omega arith in
      λ o. none (subst (λ n. IsOver S D q rows n e.hi) (sym a) (subst (λ n. IsOver S D q rows i n) (sym b) o))
]

-- the first of all
pub first_of_all : (S : List Point) (D : List Costed) (q : ℕ) (rows : List Row) (i n : ℕ) (x : Loaded) → IsFirstOverFrom S D q rows i n (Some x) → ((k l : ℕ) → k < i → k < l → l < n → ¬ IsOver S D q rows k l)
    → IsFirstOver S D q rows n (Some x)
first_of_all S D q rows i n x (lo, hi, over, is, later) before = (
  record {
    ordered = x.pair.ordered;
    within = hi;
    holds = over;
    before = λ k l kl ln comes. elim comes [
      | inl h ↦ before k l (omega arith) kl ln
      | inr h ↦ (let e : k ≡ i = h.0 ∙ lo in λ o. later l (omega (arith, h.1)) h.1 (subst (λ m. IsOver S D q rows m l) e o))
    ];
  },
  is,
)

-- the first of a strip, and of all strips so far
pub first_in_strip : (S : List Point) (D : List Costed) (q : ℕ) (rows : List Row) (m e i n : ℕ) (x : Loaded) → IsFirstOverFrom S D q rows i n (Some x)
    → ((k l : ℕ) → m ≤ k → k < i → k < l → l < n → ¬ IsOver S D q rows k l) → IsFirstOverOf S D q rows m e n (Some x)
first_in_strip S D q rows m e i n x first before =
    (subst (λ k. IsFirstOverFrom S D q rows k n (Some x)) (sym first.0) first, λ k l mk kx kl ln. before k l mk (omega (arith, first.0)) kl ln)

pub strip_goes_on : (S : List Point) (D : List Costed) (q : ℕ) (rows : List Row) (m i n : ℕ) → IsFirstOverFrom S D q rows i n None → ((k l : ℕ) → m ≤ k → k < i → k < l → l < n → ¬ IsOver S D q rows k l)
    → (k l : ℕ) → m ≤ k → k < i + 1 → k < l → l < n → ¬ IsOver S D q rows k l
strip_goes_on S D q rows m i n none before k l mk ki kl ln = elim (cases_lt k i) [
  | inl h ↦ before k l mk h kl ln
  | inr g ↦ (let e : k ≡ i = omega arith in λ o. none l (omega arith) ln (subst (λ p. IsOver S D q rows p l) e o))
]

pub first_of_strips : (S : List Point) (D : List Costed) (q : ℕ) (rows : List Row) (m e n : ℕ) (x : Loaded) → IsFirstOverOf S D q rows m e n (Some x) → ((k l : ℕ) → k < m → k < l → l < n → ¬ IsOver S D q rows k l)
    → IsFirstOver S D q rows n (Some x)
first_of_strips S D q rows m e n x h before =
    first_of_all S D q rows x.pair.lo n x h.0 (λ k l kx kl ln. elim (cases_lt k m) [ inl c ↦ before k l c kl ln | inr g ↦ h.1 k l g kx kl ln ])

pub strips_go_on : (S : List Point) (D : List Costed) (q : ℕ) (rows : List Row) (m e n : ℕ) → IsFirstOverOf S D q rows m e n None → ((k l : ℕ) → k < m → k < l → l < n → ¬ IsOver S D q rows k l)
    → (k l : ℕ) → k < e → k < l → l < n → ¬ IsOver S D q rows k l
strips_go_on S D q rows m e n none before k l ke kl ln = elim (cases_lt k m) [ inl c ↦ before k l c kl ln | inr g ↦ none k l g ke kl ln ]
