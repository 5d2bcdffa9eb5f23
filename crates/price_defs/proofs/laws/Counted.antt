-- What the rows count of a convex partition, row by row and all together.
use Rattle.std.proofs.Common.{◌≡◌, ◌≢◌, ℕ, ◌+◌, ◌*◌, ◌<◌, ◌≤◌, ◌⊎◌, inl, inr, List, [], ◌∷◌, length, true, false, cond, sym, ◌∙◌, ap, refl, subst, arith}
use Rattle.std.specs.List.{AllPairs, Any, Contains, sum_by}
use Rattle.std.proofs.lemmas.List.Sums.{sum_by-cons}
use Rattle.std.proofs.lemmas.List.Elements.{All-head, All-tail, All-cons, All-nil}
use Rattle.std.proofs.lemmas.List.Kept.{AllPairs-cons}
use Rattle.plane.specs.declared.coordinates.Point.{Point}
use Rattle.plane.specs.declared.segment.Pair.{Pair}
use Rattle.plane.specs.Geometry.{IsBorderPair, IsInner, IsInNeed}
use Rattle.plane.proofs.laws.Pairs.{pair_same}
use Rattle.partition_defs.specs.Partition.{HasEnds, ArePlane, IsMet, MeetsNeeds}
use Rattle.partition_defs.specs.Triangulation.{AreDistinct}
use Rattle.price_defs.specs.Laws.{HasThree, had, off}
use Rattle.price_defs.specs.declared.row.Row.{Row}
use Rattle.price_defs.specs.declared.row.Row.TheVariants.{Half, Three, Cross, Cap}
use Rattle.price_defs.specs.Rows.{IsRight, AreRight, weight, Counts, counts, lessens}
use Rattle.price_defs.specs.Loads.{given, lessened, gives, takes, added, lost}
use Rattle.number_laws.proofs.ListSums.{sum-add, sum-zero, sum-le_on, sum-one_off, sum-part, sum-at_most_one, outside, contains_cases}
use Rattle.price_defs.proofs.laws.Tests.{same_pair, same_pair_decides, counts_decides, lessens_decides}
use Rattle.plane.proofs.laws.Border.{border_back}
use Rattle.price_defs.proofs.laws.Three.{three_at}

pub given_yes : (S : List Point) (row : Row) (i j : ℕ) → Counts S row i j → given S i j row ≡ weight row
given_yes S row i j h = ap (λ t. cond t (weight row) 0) ((counts_decides S row i j).1 h)

pub given_no : (S : List Point) (row : Row) (i j : ℕ) → ¬ Counts S row i j → given S i j row ≡ 0
given_no S row i j h =
    elim (counts S row i j) as (λ t. counts S row i j ≡ t → cond t (weight row) 0 ≡ 0) [
      | true ↦ λ e. absurd (h ((counts_decides S row i j).0 e))
      | false ↦ λ e. refl
    ] refl

-- one end is p and the other one is counted
half_counts : (S : List Point) (p q w r : ℕ) (e : Pair) → HasEnds e p r → IsInNeed S p q r → Counts S (Half p q w) e.lo e.hi
half_counts S p q w r e (inl h) n = inl (h.0, subst (λ x. IsInNeed S p q x) (sym h.1) n)
half_counts S p q w r e (inr h) n = inr (h.1, subst (λ x. IsInNeed S p q x) (sym h.0) n)

three_counts : (S : List Point) (p w r : ℕ) (e : Pair) → HasEnds e p r → Counts S (Three p w) e.lo e.hi
three_counts S p w r e (inl h) = inl h.0
three_counts S p w r e (inr h) = inr h.1

-- A Half row counts a pair of each convex partition.
pub half_had : (S : List Point) (K : List Pair) (p q w : ℕ) → MeetsNeeds S K → IsRight S (Half p q w) → w ≤ had S (Half p q w) K
half_had S K p q w met (pn, qn, ne, inner) =
    let m : IsMet S K p q = met p pn inner q qn ne in
    let a : Any (λ (e : Pair). HasEnds e p m.0) K = m.2 in
    let yes : given S a.1.lo a.1.hi (Half p q w) ≡ w = given_yes S (Half p q w) a.1.lo a.1.hi (half_counts S p q w m.0 a.1 a.4 m.3) in
    let s : sum_by (λ (e : Pair). 0) K + w ≤ had S (Half p q w) K =
    sum-one_off (λ (e : Pair). given S e.lo e.hi (Half p q w)) (λ (e : Pair). 0) w a.1 K (a.0, a.2, a.3) (λ e. omega arith) (omega arith) in
    omega (arith, sum-zero K)

other_end : (e f : Pair) (p a b : ℕ) → HasEnds e p a → HasEnds f p b → e ≡ f → a ≡ b
other_end e f p a b (inl h) (inl k) g = omega (arith, h.1, k.1, ap (λ (x : Pair). x.hi) g)
other_end e f p a b (inl h) (inr k) g = absurd (omega (arith, h.0, h.1, k.0, k.1, e.ordered, ap (λ (x : Pair). x.hi) g, ap (λ (x : Pair). x.lo) g))
other_end e f p a b (inr h) (inl k) g = absurd (omega (arith, h.0, h.1, k.0, k.1, e.ordered, ap (λ (x : Pair). x.hi) g, ap (λ (x : Pair). x.lo) g))
other_end e f p a b (inr h) (inr k) g = omega (arith, h.0, k.0, ap (λ (x : Pair). x.lo) g)

three_distinct : (e f g : Pair) → e ≢ f → f ≢ g → e ≢ g → AllPairs (λ (x y : Pair). x ≢ y) (e ∷ f ∷ g ∷ [])
three_distinct e f g ef fg eg =
    let R : Pair → Pair → Type 0 = λ x y. x ≢ y in
    AllPairs-cons R e (f ∷ g ∷ []) (All-cons (R e) f (g ∷ []) ef (All-cons (R e) g [] eg (All-nil (R e))))
    (AllPairs-cons R f (g ∷ []) (All-cons (R f) g [] fg (All-nil (R f))) (AllPairs-cons R g [] (All-nil (R g)) (λ i j d l m. absurd (omega arith))))

in_three : (P : Pair → Type 0) (e f g : Pair) → P e → P f → P g → (x : Pair) → Contains (e ∷ f ∷ g ∷ []) x → P x
in_three P e f g he hf hg x c =
    elim (contains_cases e (f ∷ g ∷ []) x c) [
      | inl h ↦ subst P h he
      | inr c2 ↦ elim (contains_cases f (g ∷ []) x c2) [
        | inl h ↦ subst P h hf
        | inr c3 ↦ elim (contains_cases g [] x c3) [ inl h ↦ subst P h hg | inr c4 ↦ absurd (omega arith) ]
      ]
    ]

three_sum : (f : Pair → ℕ) (w : ℕ) (a b c : Pair) → f a ≡ w → f b ≡ w → f c ≡ w → sum_by f (a ∷ b ∷ c ∷ []) ≡ 3 * w
three_sum f w a b c ha hb hc = omega arith

-- A Three row counts three pairs of each convex partition.
pub three_had : (S : List Point) (K : List Pair) (p w : ℕ) → 3 ≤ length S → MeetsNeeds S K → IsRight S (Three p w) → 3 * w ≤ had S (Three p w) K
three_had S K p w many met (pn, inner, alone) =
    let t : HasThree K p = three_at S K p many alone (met p pn inner) in
    let f : Pair → ℕ = λ e. given S e.lo e.hi (Three p w) in
    let a : Any (λ (e : Pair). HasEnds e p t.a) K = t.at_a in
    let b : Any (λ (e : Pair). HasEnds e p t.b) K = t.at_b in
    let c : Any (λ (e : Pair). HasEnds e p t.c) K = t.at_c in
    let ya : f a.1 ≡ w = given_yes S (Three p w) a.1.lo a.1.hi (three_counts S p w t.a a.1 a.4) in
    let yb : f b.1 ≡ w = given_yes S (Three p w) b.1.lo b.1.hi (three_counts S p w t.b b.1 b.4) in
    let yc : f c.1 ≡ w = given_yes S (Three p w) c.1.lo c.1.hi (three_counts S p w t.c c.1 c.4) in
    let d : AllPairs (λ (x y : Pair). x ≢ y) (a.1 ∷ b.1 ∷ c.1 ∷ []) =
    three_distinct a.1 b.1 c.1 (λ e. t.ab (other_end a.1 b.1 p t.a t.b a.4 b.4 e)) (λ e. t.bc (other_end b.1 c.1 p t.b t.c b.4 c.4 e)) (λ e. t.ac (other_end a.1 c.1 p t.a t.c a.4 c.4 e)) in
    let s : sum_by f (a.1 ∷ b.1 ∷ c.1 ∷ []) + sum_by (outside same_pair f (a.1 ∷ b.1 ∷ c.1 ∷ [])) K ≤ sum_by f K =
    sum-part same_pair same_pair_decides f (a.1 ∷ b.1 ∷ c.1 ∷ []) K d (in_three (Contains K) a.1 b.1 c.1 (a.0, a.2, a.3) (b.0, b.2, b.3) (c.0, c.2, c.3)) in
    omega (arith, three_sum f w a.1 b.1 c.1 ya yb yc)

pub ends_same : (e x : Pair) → HasEnds e x.lo x.hi → e ≡ x
ends_same e x (inl h) = pair_same e x h.0 h.1
ends_same e x (inr h) = absurd (omega (arith, h.0, h.1, e.ordered, x.ordered))

-- At most one of two crossing pairs is in a plane set.
pub cross_off : (S : List Point) (K : List Pair) (e f : Pair) (w : ℕ) → AreDistinct K → ArePlane S K → IsRight S (Cross e f w) → off (Cross e f w) K ≤ w
cross_off S K e f w d plane (en, fn, cross) =
    sum-at_most_one (λ (x : Pair). lessens (Cross e f w) x.lo x.hi) w K d
    (λ x y cx cy hx hy. elim ((lessens_decides (Cross e f w) x.lo x.hi).0 hx) [
      | inl k ↦ elim ((lessens_decides (Cross e f w) y.lo y.hi).0 hy) [
        | inl l ↦ sym (ends_same e x k) ∙ ends_same e y l
        | inr l ↦ absurd (plane e f (subst (Contains K) (sym (ends_same e x k)) cx) (subst (Contains K) (sym (ends_same f y l)) cy) cross)
      ]
      | inr k ↦ elim ((lessens_decides (Cross e f w) y.lo y.hi).0 hy) [
        | inl l ↦ absurd (plane e f (subst (Contains K) (sym (ends_same e y l)) cy) (subst (Contains K) (sym (ends_same f x k)) cx) cross)
        | inr l ↦ sym (ends_same f x k) ∙ ends_same f y l
      ]
    ])

pub cap_off : (K : List Pair) (e : Pair) (w : ℕ) → AreDistinct K → off (Cap e w) K ≤ w
cap_off K e w d =
    sum-at_most_one (λ (x : Pair). lessens (Cap e w) x.lo x.hi) w K d
    (λ x y cx cy hx hy. sym (ends_same e x ((lessens_decides (Cap e w) x.lo x.hi).0 hx)) ∙ ends_same e y ((lessens_decides (Cap e w) y.lo y.hi).0 hy))

-- Every right row's pairs of a convex partition.
pub row_had : (S : List Point) (K : List Pair) (row : Row) → 3 ≤ length S → MeetsNeeds S K → IsRight S row → added row ≤ had S row K
row_had S K (Half p q w) many met right = half_had S K p q w met right
row_had S K (Three p w) many met right = three_had S K p w many met right
row_had S K (Cross e f w) many met right = omega arith
row_had S K (Cap e w) many met right = omega arith

not_lessens_half : (p q w : ℕ) (x : Pair) → lessened x.lo x.hi (Half p q w) ≡ 0
unfolding lessens
not_lessens_half p q w x = refl

not_lessens_three : (p w : ℕ) (x : Pair) → lessened x.lo x.hi (Three p w) ≡ 0
unfolding lessens
not_lessens_three p w x = refl

pub row_off : (S : List Point) (K : List Pair) (row : Row) → AreDistinct K → ArePlane S K → IsRight S row → off row K ≤ lost row
row_off S K (Half p q w) d plane right =
    omega (arith, sum-le_on (λ (e : Pair). lessened e.lo e.hi (Half p q w)) (λ (e : Pair). 0) K (λ x c. omega (arith, not_lessens_half p q w x)), sum-zero K)
row_off S K (Three p w) d plane right =
    omega (arith, sum-le_on (λ (e : Pair). lessened e.lo e.hi (Three p w)) (λ (e : Pair). 0) K (λ x c. omega (arith, not_lessens_three p w x)), sum-zero K)
row_off S K (Cross e f w) d plane right = cross_off S K e f w d plane right
row_off S K (Cap e w) d plane right = cap_off K e w d

-- The sum over rows and pairs, lessened in the two orders.
pub all_had : (S : List Point) (K : List Pair) (rows : List Row) → 3 ≤ length S → MeetsNeeds S K → AreRight S rows
    → sum_by added rows ≤ sum_by (λ (e : Pair). gives S rows e.lo e.hi) K
all_had S K [] many met right = omega arith
all_had S K (row ∷ rows) many met right =
    omega (
      arith,
      sum_by-cons added row rows,
      row_had S K row many met (All-head (IsRight S) row rows right),
      all_had S K rows many met (All-tail (IsRight S) row rows right),
      sum-add (λ (e : Pair). given S e.lo e.hi row) (λ (e : Pair). gives S rows e.lo e.hi) K,
      sum-le_on (λ (e : Pair). given S e.lo e.hi row + gives S rows e.lo e.hi) (λ (e : Pair). gives S (row ∷ rows) e.lo e.hi) K
          (λ e c. omega (arith, sum_by-cons (given S e.lo e.hi) row rows)),
    )

pub all_off : (S : List Point) (K : List Pair) (rows : List Row) → AreDistinct K → ArePlane S K → AreRight S rows
    → sum_by (λ (e : Pair). takes rows e.lo e.hi) K ≤ sum_by lost rows
all_off S K [] d plane right = omega (arith, sum-zero K)
all_off S K (row ∷ rows) d plane right =
    omega (
      arith,
      sum_by-cons lost row rows,
      row_off S K row d plane (All-head (IsRight S) row rows right),
      all_off S K rows d plane (All-tail (IsRight S) row rows right),
      sum-add (λ (e : Pair). lessened e.lo e.hi row) (λ (e : Pair). takes rows e.lo e.hi) K,
      sum-le_on (λ (e : Pair). takes (row ∷ rows) e.lo e.hi) (λ (e : Pair). lessened e.lo e.hi row + takes rows e.lo e.hi) K
          (λ e c. omega (arith, sum_by-cons (lessened e.lo e.hi) row rows)),
    )

-- No right row counts a border pair.
inner_free : (S : List Point) (p i j : ℕ) → IsInner S p → IsBorderPair S i j → i < j → j < length S → (i ≡ p) ⊎ (j ≡ p) → ⊥
inner_free S p i j inner b l n (inl e) = inner j n (λ g. absurd (omega arith)) (subst (λ x. IsBorderPair S x j) e b)
inner_free S p i j inner b l n (inr e) = inner i (omega arith) (λ g. absurd (omega arith)) (subst (λ x. IsBorderPair S x i) e (border_back S i j b))

pub row_free : (S : List Point) (row : Row) (i j : ℕ) → IsRight S row → IsBorderPair S i j → i < j → j < length S → ¬ Counts S row i j
row_free S (Half p q w) i j right b l n (inl c) = inner_free S p i j right.3 b l n (inl c.0)
row_free S (Half p q w) i j right b l n (inr c) = inner_free S p i j right.3 b l n (inr c.0)
row_free S (Three p w) i j right b l n c = inner_free S p i j right.1 b l n c
row_free S (Cross e f w) i j right b l n c = c
row_free S (Cap e w) i j right b l n c = c

pub border_free : (S : List Point) (rows : List Row) (i j : ℕ) → AreRight S rows → IsBorderPair S i j → i < j → j < length S → gives S rows i j ≡ 0
border_free S [] i j right b l n = refl
border_free S (row ∷ rows) i j right b l n =
    omega (
      arith,
      sum_by-cons (given S i j) row rows,
      given_no S row i j (row_free S row i j (All-head (IsRight S) row rows right) b l n),
      border_free S rows i j (All-tail (IsRight S) row rows right) b l n,
    )
