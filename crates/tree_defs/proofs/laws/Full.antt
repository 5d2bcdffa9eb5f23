-- The branch tree of the plain search has one size.
use Rattle.std.proofs.Common.{◌≡◌, ℕ, ◌+◌, ◌<◌, ◌⊎◌, inl, inr, List, length, sym, ap₂, refl, subst, arith}
use Rattle.std.proofs.lemmas.List.{length-append}
use Rattle.plane.specs.declared.coordinates.Point.{Point}
use Rattle.plane.specs.declared.segment.Pair.{Pair}
use Rattle.std.specs.List.{Contains}
use Rattle.plane.specs.Geometry.{AreCrossing, IsBorderPair}
use Rattle.partition_defs.specs.Partition.{IsMet}
use Rattle.price_defs.specs.declared.row.Row.TheVariants.{Half}
use Rattle.price_defs.specs.Rows.{Counts}
use Rattle.price_defs.proofs.laws.Counted.{row_free}
use Rattle.plane.specs.First.{IsLeast, IsFirstPair, ComesBefore}
use Rattle.plane.proofs.laws.Pairs.{pair_same}
use Rattle.price_defs.specs.declared.row.Certificate.{Certificate}
use Rattle.cost_defs.specs.Costs.{Costed, total}
use Rattle.raise_laws.proofs.laws.Once.{raised_floor_once}
use Rattle.tree_defs.specs.Laws.{FullIsOne}
use Rattle.tree_defs.specs.Leaves.{Sets}
use Rattle.tree_defs.specs.Trees.{Tree, IsUndecided, Bare, Fork, root, taking, barring, preorder}
use Rattle.tree_defs.specs.Full.{IsUnmet, IsFirstUnmet, IsCandidate, IsNamed, IsFullEnd, IsFullBelow}

pub least_same : (P : ℕ → Type 0) (n j k : ℕ) → IsLeast P n j → IsLeast P n k → j ≡ k
least_same P n j k a b =
    let x : ¬ (j < k) = λ l. b.before j l a.holds in
    let y : ¬ (k < j) = λ l. a.before k l b.holds in
    omega (arith, x, y)

three_orders : (i j k l : ℕ) → ComesBefore i j k l ⊎ (ComesBefore k l i j ⊎ ((i ≡ k) × (j ≡ l)))
three_orders i j k l = grind arith

pub first_pair_same : (R : ℕ → ℕ → Type 0) (n i j k l : ℕ) → IsFirstPair R n i j → IsFirstPair R n k l → (i ≡ k) × (j ≡ l)
first_pair_same R n i j k l a b =
    elim (three_orders i j k l) [
      | inl c ↦ absurd (b.before i j a.ordered a.within c a.holds)
      | inr d ↦ elim d [ inl c ↦ absurd (a.before k l b.ordered b.within c b.holds) | inr e ↦ e ]
    ]

-- the search names one segment
abbrev pub IsNext : List Point → Sets → Pair → Type 0
IsNext S s e = (p q : ℕ) × IsFirstUnmet S s.taken p q × IsNamed S s p q e

pub named_same : (S : List Point) (s : Sets) (e f : Pair) → IsNext S s e → IsNext S s f → e ≡ f
named_same S s e f (p, q, x, a) (u, v, y, b) =
    let same_p : p ≡ u = least_same _ (length S) p u x.point y.point in
    let need : IsLeast (IsUnmet S s.taken u) (length S) q = subst (λ z. IsLeast (IsUnmet S s.taken z) (length S) q) same_p x.need in
    let same_q : q ≡ v = least_same (IsUnmet S s.taken u) (length S) q v need y.need in
    let c : IsNamed S s u v e = subst (λ z. IsNamed S s z v e) same_p (subst (λ z. IsNamed S s p z e) same_q a) in
    let h : (e.lo ≡ f.lo) × (e.hi ≡ f.hi) = first_pair_same (IsCandidate S s u v) (length S) e.lo e.hi f.lo f.hi c b in
    pair_same e f h.0 h.1

pub size : Tree → ℕ
size t = length (preorder t)

size_fork : (e : Pair) (t u : Tree) → length (preorder (Fork e t u)) ≡ 1 + (length (preorder t) + length (preorder u))
size_fork e t u = omega (arith, length-append (preorder t) (preorder u))

pub full_size_once : (S : List Point) (D : List Costed) (h limit : ℕ) (c : Certificate) (s : Sets) (t u : Tree)
    → IsFullBelow S D h limit c s t → IsFullBelow S D h limit c s u → length (preorder t) ≡ length (preorder u)
full_size_once S D h limit c s (Bare x) (Bare y) a b = refl
full_size_once S D h limit c s (Bare x) (Fork e t u) a b = absurd (b.0 a)
full_size_once S D h limit c s (Fork e t u) (Bare y) a b = absurd (a.0 b)
full_size_once S D h limit c s (Fork e t u) (Fork f v w) a b =
    let same : f ≡ e = named_same S s f e b.1 a.1 in
    let left : length (preorder t) ≡ length (preorder v) =
    full_size_once S D h limit c (taking s e) t v a.2 (subst (λ g. IsFullBelow S D h limit c (taking s g) v) same b.2) in
    let right : length (preorder u) ≡ length (preorder w) =
    full_size_once S D h limit c (barring s e) u w a.3 (subst (λ g. IsFullBelow S D h limit c (barring s g) w) same b.3) in
    omega (arith, left, right, size_fork e t u, size_fork f v w)

-- where there is no room for the search, at a branch: none for the first child, or none for the second beside the first
pub no_room : (S : List Point) (D : List Costed) (h limit : ℕ) (c : Certificate) (s : Sets) (e : Pair) (room : ℕ)
    → (¬ IsFullEnd S D h limit c s) → IsNext S s e
    → ((t u : Tree) → IsFullBelow S D h limit c (taking s e) t → IsFullBelow S D h limit c (barring s e) u → room < 1 + (length (preorder t) + length (preorder u)))
    → (t : Tree) → IsFullBelow S D h limit c s t → room < length (preorder t)
no_room S D h limit c s e room on next more (Bare x) full = absurd (on full)
no_room S D h limit c s e room on next more (Fork f t u) full =
    let same : f ≡ e = named_same S s f e full.1 next in
    omega (
      arith,
      size_fork f t u,
      more t u (subst (λ g. IsFullBelow S D h limit c (taking s g) t) same full.2) (subst (λ g. IsFullBelow S D h limit c (barring s g) u) same full.3),
    )

pub full_is_one : (S : List Point) → FullIsOne S
full_is_one S D h first t u (c, rc, a) (d, rd, b) =
    let e : (c.q ≡ d.q) × (c.rows ≡ d.rows) = raised_floor_once S D c.q d.q c.rows d.rows rc rd in
    let same : d ≡ c = certificate_same d c (sym e.0) (sym e.1) in
    full_size_once S D h (total D first) c root t u a (subst (λ x. IsFullBelow S D h (total D first) x root u) same b)
  where
    certificate_same : (x y : Certificate) → x.q ≡ y.q → x.rows ≡ y.rows → x ≡ y
    certificate_same x y g k = ap₂ (λ q rows. record { q = q; rows = rows }) g k

-- the named segment is no border pair
pub named_inside : (S : List Point) (s : Sets) (e : Pair) → IsNext S s e → ¬ IsBorderPair S e.lo e.hi
named_inside S s e (p, q, x, a) is =
    row_free S (Half p q 0) e.lo e.hi (x.point.within, x.need.within, x.need.holds.0, x.point.holds.0) is e.ordered a.within a.holds.1

met_by : (S : List Point) (A : List Pair) (p q : ℕ) (e : Pair) → e.hi < length S → Contains A e → Counts S (Half p q 0) e.lo e.hi → IsMet S A p q
met_by S A p q e n c (inl h) = (e.hi, n, (c.0, e, c.1, c.2, inl (h.0, refl)), h.1)
met_by S A p q e n c (inr h) = (e.lo, omega (arith, e.ordered, n), (c.0, e, c.1, c.2, inr (refl, h.0)), h.1)

-- it is neither taken nor barred, and crosses no taken one
pub named_undecided : (S : List Point) (s : Sets) (e : Pair) → IsNext S s e → IsUndecided S s e
named_undecided S s e (p, q, x, a) =
    record {
      within = a.within;
      clear = a.holds.0;
      not_taken = λ c. x.need.holds.1 (met_by S s.taken p q e a.within c a.holds.1);
      not_barred = λ c. a.holds.2 (inl (c.0, e, c.1, c.2, inl (refl, refl)));
    }

pub named_crosses_none : (S : List Point) (s : Sets) (e : Pair) → IsNext S s e → (f : Pair) → Contains s.taken f → ¬ AreCrossing S e.lo e.hi f.lo f.hi
named_crosses_none S s e (p, q, x, a) f c cross = a.holds.2 (inr (f, c, cross))
