-- The border pairs are the sides of the two chains, each once.
use Rattle.std.proofs.Common.{◌≡◌, ◌≢◌, ℕ, ℤ, pos, neg_ℤ, ◌<◌, ◌+◌, ◌*◌, ◌⊎◌, inl, inr, List, [], ◌∷◌, ◌++◌, length, get_or, map, sym, ◌∙◌, ap, ap₂, refl, subst, subst₂, arith, length-append, append-nil}
use Rattle.std.specs.Prelude.{◌≤ℤ◌}
use Rattle.std.specs.List.{All, AllPairs, Contains}
use Rattle.std.proofs.lemmas.Bool.{cases_order}
use Rattle.std.proofs.lemmas.List.{get_or-map, length-map}
use Rattle.std.proofs.lemmas.List.Elements.{All-contains, Contains-get_or, Contains-append_left, Contains-append_right, Contains-append_cases}
use Rattle.std.proofs.lemmas.Int.{ints}
use Rattle.plane.specs.declared.coordinates.Point.{Point}
use Rattle.plane.specs.declared.segment.Pair.{Pair}
use Rattle.plane.specs.Geometry.{point, orientation, IsBorderPair}
use Rattle.plane.specs.Accepted.{AreApart, AreSpread}
use Rattle.plane_laws.proofs.Orientations.{all_in_line}
use Rattle.partition_defs.specs.Partition.{Joins, HasEnds}
use Rattle.partition_defs.specs.Triangulation.{IsBorderList, HasTriangulationCount}
use Rattle.partition_defs.specs.Sweep.{IsSweptBefore}
use Rattle.triangulate.specs.Sides.{UpTo}
use Rattle.triangulate.specs.Front.{Links, Side}
use Rattle.triangulate.specs.Swept.{opposite}
use Rattle.triangulate.proofs.Field.{Setting, turned_back, not_both}
use Rattle.triangulate.proofs.Final.{All as AllIn, clear_turned}
use Rattle.triangulate.proofs.Places.{sweep_setting, opposite_turned}
use Rattle.triangulate.proofs.Triangulated.{Swept, border_links, clear_from}
use Rattle.partition_defs.proofs.laws.Joined.{contains_joins, joins_pair}
use Rattle.triangulate.proofs.Count.{Key, key, ends, chain_keys, keys_count, all_keys, contains_key, key_cases, keys_distinct, pairs_distinct, same_length}
use Rattle.plane.proofs.laws.Area.{area_back}
use Rattle.plane.proofs.laws.Border.{border_back}
use Rattle.number_laws.proofs.Naturals.{below_differs}
use Rattle.number_laws.proofs.Signs.{zero_of_weak}
use Rattle.triangulate.specs.Swept.{swept_sight}

-- no side is on both chains
not_shared : (S : List Point) (apart : AreApart S) → AreSpread S → (T : List Pair) (r r2 : List ℕ) (z : ℕ) → Swept S apart T r r2 z → AllIn (sweep_setting S apart) z
    → (p q : ℕ) → Links z r p q → Links z r2 p q → ⊥
not_shared S apart spread T r r2 z m all p q k l =
    let d : Side (swept_sight S (orientation S)) (Joins T) (λ s. UpTo (IsSweptBefore S) s z) p q = m.lower.sides p q k in
    let e : Side (swept_sight S (opposite S)) (Joins T) (λ s. UpTo (IsSweptBefore S) s z) p q = m.upper.sides p q l in
    let on : (s : ℕ) → s < length S → orientation S p q s ≡ pos 0 = λ s sn. zero_of_weak (orientation S p q s) (d.left s sn (all s sn)) (e.left s sn (all s sn)) in
    let a = spread.0 in let b = spread.1 in let c = spread.2 in
    spread.6 (all_in_line (point S p) (point S q) (point S a) (point S b) (point S c) d.before (on a spread.3) (on b spread.4) (on c spread.5))

swapped_side : (x y : ℤ) → y ≡ neg_ℤ x → pos 0 ≤ℤ neg_ℤ x → pos 0 ≤ℤ y
swapped_side x y e h = omega (arith, ints)

lower_border : (S : List Point) (apart : AreApart S) (T : List Pair) (r r2 : List ℕ) (z : ℕ) → Swept S apart T r r2 z → AllIn (sweep_setting S apart) z
    → (p q : ℕ) → Links z r p q → IsBorderPair S p q
lower_border S apart T r r2 z m all p q k =
    let d : Side (swept_sight S (orientation S)) (Joins T) (λ s. UpTo (IsSweptBefore S) s z) p q = m.lower.sides p q k in
    (clear_from S apart p q d.before d.clear, inl (λ s sn. d.left s sn (all s sn)))

upper_border : (S : List Point) (apart : AreApart S) (T : List Pair) (r r2 : List ℕ) (z : ℕ) → Swept S apart T r r2 z → AllIn (sweep_setting S apart) z
    → (p q : ℕ) → Links z r2 p q → IsBorderPair S p q
upper_border S apart T r r2 z m all p q k =
    let d : Side (swept_sight S (opposite S)) (Joins T) (λ s. UpTo (IsSweptBefore S) s z) p q = m.upper.sides p q k in (
      clear_from S apart p q d.before (clear_turned (sweep_setting S apart) (opposite S) (orientation S) (turned_back (orientation S) (opposite S) (opposite_turned S)) p q d.clear),
      inr (λ s sn. swapped_side (orientation S p q s) (orientation S q p s) (area_back (point S q) (point S p) (point S s)) (d.left s sn (all s sn))),
    )

pub key_of : (e : Pair) (i j : ℕ) → i < j → HasEnds e i j → ends e ≡ key i j
unfolding key
key_of e i j h (inl g) = ap₂ (λ (x y : ℕ). (let u : Key = (x, y) in u)) (let f : e.lo ≡ i = g.0 in omega arith) (let f : e.hi ≡ j = g.1 in omega arith)
key_of e i j h (inr g) = (let f : e.lo ≡ j = g.0 in let f2 : e.hi ≡ i = g.1 in let o : e.lo < e.hi = e.ordered in absurd (omega arith))

key_swap : (i j : ℕ) → key i j ≡ key j i
unfolding key
key_swap i j = ap₂ (λ (x y : ℕ). (let u : Key = (x, y) in u)) (omega arith) (omega arith)

pub contains_ends : (B : List Pair) (e : Pair) → Contains B e → Contains (map ends B) (ends e)
contains_ends B e c =
    (c.0, subst (λ n. c.0 < n) (sym (length-map B ends)) c.1, get_or-map ends B c.0 e (ends e) c.1 ∙ ap ends c.2)

-- a border pair is in the list
listed : (S : List Point) (B : List Pair) → IsBorderList S B → (i j : ℕ) → i < j → j < length S → IsBorderPair S i j → Contains (map ends B) (key i j)
listed S B b i j h jn p =
    let u : Joins B i j = (b.exact i j h jn).1 p in
    subst (λ x. Contains (map ends B) x) (key_of u.1 i j h u.4) (contains_ends B u.1 (joins_pair B i j u))

listed_any : (S : List Point) (apart : AreApart S) (B : List Pair) → IsBorderList S B → (i j : ℕ) → i < length S → j < length S → i ≢ j → IsBorderPair S i j → Contains (map ends B) (key i j)
listed_any S apart B b i j iN jn hne p = elim (cases_order i j) [
  | inl e ↦ absurd (hne e)
  | inr u ↦ elim u [
    | inl h ↦ listed S B b i j h jn p
    | inr h ↦ subst (λ x. Contains (map ends B) x) (key_swap j i) (listed S B b j i h iN (border_back S i j p))
  ]
]

side_differ : (S : List Point) (apart : AreApart S) (p q : ℕ) → IsSweptBefore S p q → p ≢ q
side_differ S apart p q h e = let E : Setting = sweep_setting S apart in E.irrefl q (subst (λ x. E.B x q) e h)

on_chains : (S : List Point) (apart : AreApart S) (T : List Pair) (r r2 : List ℕ) (z : ℕ) (p q : ℕ) → Links z r p q ⊎ Links z r2 p q → Contains (chain_keys z r ++ chain_keys z r2) (key p q)
on_chains S apart T r r2 z p q (inl k) = Contains-append_left (chain_keys z r) (chain_keys z r2) (key p q) (contains_key z r p q k)
on_chains S apart T r r2 z p q (inr k) = Contains-append_right (chain_keys z r) (chain_keys z r2) (key p q) (contains_key z r2 p q k)

pair_on_chains : (S : List Point) (apart : AreApart S) (T : List Pair) (r r2 : List ℕ) (z : ℕ) → Swept S apart T r r2 z → AllIn (sweep_setting S apart) z
    → (B : List Pair) → IsBorderList S B → (e : Pair) → Contains B e → Contains (chain_keys z r ++ chain_keys z r2) (ends e)
pair_on_chains S apart T r r2 z m all B b e c =
    let o : e.lo < e.hi = e.ordered in
    let hn : e.hi < length S = b.within e c in
    let p : IsBorderPair S e.lo e.hi = (b.exact e.lo e.hi o hn).0 (contains_joins B e c) in
    let f : ends e ≡ key e.lo e.hi = key_of e e.lo e.hi o (inl (refl, refl)) in
    subst (λ x. Contains (chain_keys z r ++ chain_keys z r2) x) (sym f)
    (elim (border_links S apart T r r2 z m all e.lo e.hi (omega arith) hn (λ g. below_differs e.lo e.hi o g) p) [
      | inl k ↦ on_chains S apart T r r2 z e.lo e.hi k
      | inr k ↦ subst (λ x. Contains (chain_keys z r ++ chain_keys z r2) x) (key_swap e.hi e.lo) (on_chains S apart T r r2 z e.hi e.lo k)
    ])

ends_at : (S : List Point) (apart : AreApart S) (T : List Pair) (r r2 : List ℕ) (z : ℕ) → Swept S apart T r r2 z → AllIn (sweep_setting S apart) z
    → (B : List Pair) → IsBorderList S B → (k : ℕ) (x : Key) → k < length B → Contains (chain_keys z r ++ chain_keys z r2) (get_or (map ends B) k x)
ends_at S apart T r r2 z m all [] b k x h = absurd (omega arith)
ends_at S apart T r r2 z m all (e ∷ B) b k x h =
    subst (λ y. Contains (chain_keys z r ++ chain_keys z r2) y) (sym (get_or-map ends (e ∷ B) k e x h))
    (pair_on_chains S apart T r r2 z m all (e ∷ B) b (get_or (e ∷ B) k e) (Contains-get_or (e ∷ B) k e h))

ends_on_chains : (S : List Point) (apart : AreApart S) (T : List Pair) (r r2 : List ℕ) (z : ℕ) → Swept S apart T r r2 z → AllIn (sweep_setting S apart) z
    → (B : List Pair) → IsBorderList S B → (q : Key) → Contains (map ends B) q → Contains (chain_keys z r ++ chain_keys z r2) q
ends_on_chains S apart T r r2 z m all B b q c =
    All-contains (λ x. Contains (chain_keys z r ++ chain_keys z r2) x) (map ends B) q
    (λ k x hk. (let h : k < length B = omega (arith, length-map B ends) in ends_at S apart T r r2 z m all B b k x h)) c

chains_listed : (S : List Point) (apart : AreApart S) (T : List Pair) (r r2 : List ℕ) (z : ℕ) → Swept S apart T r r2 z → AllIn (sweep_setting S apart) z
    → (B : List Pair) → IsBorderList S B → (q : Key) → Contains (chain_keys z r ++ chain_keys z r2) q → Contains (map ends B) q
chains_listed S apart T r r2 z m all B b q c = elim (Contains-append_cases (chain_keys z r) (chain_keys z r2) q c) [
  | inl k ↦ All-contains (λ x. Contains (map ends B) x) (chain_keys z r) q
      (all_keys (λ x. Contains (map ends B) x) z r (λ i j l.
      (let d : Side (swept_sight S (orientation S)) (Joins T) (λ s. UpTo (IsSweptBefore S) s z) i j = m.lower.sides i j l in
      listed_any S apart B b i j d.a_in d.b_in (side_differ S apart i j d.before) (lower_border S apart T r r2 z m all i j l)))) k
  | inr k ↦ All-contains (λ x. Contains (map ends B) x) (chain_keys z r2) q
      (all_keys (λ x. Contains (map ends B) x) z r2 (λ i j l.
      (let d : Side (swept_sight S (opposite S)) (Joins T) (λ s. UpTo (IsSweptBefore S) s z) i j = m.upper.sides i j l in
      listed_any S apart B b i j d.a_in d.b_in (side_differ S apart i j d.before) (upper_border S apart T r r2 z m all i j l)))) k
]

upper_apart : (S : List Point) (apart : AreApart S) → AreSpread S → (T : List Pair) (r r2 : List ℕ) (z : ℕ) → Swept S apart T r r2 z → AllIn (sweep_setting S apart) z
    → (p q : ℕ) → Links z r p q → All (λ (y : Key). key p q ≢ y) (chain_keys z r2)
upper_apart S apart spread T r r2 z m all p q k =
    all_keys (λ (y : Key). key p q ≢ y) z r2 (λ i j l e.
    (let d : Side (swept_sight S (orientation S)) (Joins T) (λ s. UpTo (IsSweptBefore S) s z) p q = m.lower.sides p q k in
    let f : Side (swept_sight S (opposite S)) (Joins T) (λ s. UpTo (IsSweptBefore S) s z) i j = m.upper.sides i j l in
    elim (key_cases p q i j e) [
      | inl g ↦ not_shared S apart spread T r r2 z m all p q k (subst₂ (λ x y. Links z r2 x y) (sym g.0) (sym g.1) l)
      | inr g ↦ not_both (sweep_setting S apart) p q d.before (subst₂ (λ x y. IsSweptBefore S x y) (sym g.1) (sym g.0) f.before)
    ]))

chains_distinct : (S : List Point) (apart : AreApart S) → AreSpread S → (T : List Pair) (r r2 : List ℕ) (z : ℕ) → Swept S apart T r r2 z → AllIn (sweep_setting S apart) z
    → AllPairs (λ (x y : Key). x ≢ y) (chain_keys z r ++ chain_keys z r2)
chains_distinct S apart spread T r r2 z m all =
    let E : Setting = sweep_setting S apart in
    let up : AllPairs (λ (x y : Key). x ≢ y) (chain_keys z r2 ++ []) =
    keys_distinct E z r2 [] (λ a b k. (let f : Side (swept_sight S (opposite S)) (Joins T) (λ s. UpTo (IsSweptBefore S) s z) a b = m.upper.sides a b k in f.before)) (λ i j d hij hj. absurd (omega arith)) (λ p q k i d h. absurd (omega arith)) in
    keys_distinct E z r (chain_keys z r2) (λ a b k. (let f : Side (swept_sight S (orientation S)) (Joins T) (λ s. UpTo (IsSweptBefore S) s z) a b = m.lower.sides a b k in f.before))
    (subst (λ xs. AllPairs (λ (x y : Key). x ≢ y) xs) (append-nil (chain_keys z r2)) up)
    (upper_apart S apart spread T r r2 z m all)

-- as many border pairs as sides
pub border_count : (S : List Point) (apart : AreApart S) → AreSpread S → (T : List Pair) (r r2 : List ℕ) (z : ℕ) → Swept S apart T r r2 z → AllIn (sweep_setting S apart) z
    → (B : List Pair) → IsBorderList S B → length B ≡ length r + length r2
border_count S apart spread T r r2 z m all B b =
    let e : length (map ends B) ≡ length (chain_keys z r ++ chain_keys z r2) =
    same_length (map ends B) (chain_keys z r ++ chain_keys z r2) (pairs_distinct B b.distinct) (chains_distinct S apart spread T r r2 z m all)
    (ends_on_chains S apart T r r2 z m all B b) (chains_listed S apart T r r2 z m all B b) in
    omega (arith, length-map B ends, length-append (chain_keys z r) (chain_keys z r2), keys_count z r, keys_count z r2)

pub triangulation_count : (S : List Point) (apart : AreApart S) → AreSpread S → (T : List Pair) (r r2 : List ℕ) (z : ℕ) → Swept S apart T r r2 z → AllIn (sweep_setting S apart) z
    → length T + length (z ∷ r) + length (z ∷ r2) + 1 ≡ 3 * length S → HasTriangulationCount S T
triangulation_count S apart spread T r r2 z m all h B b =
    let e : length B ≡ length r + length r2 = border_count S apart spread T r r2 z m all B b in
    omega arith
