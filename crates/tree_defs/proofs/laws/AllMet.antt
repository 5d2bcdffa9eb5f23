-- Where the taken segments meet all needs: the leaf's value is the cost of the convex partition that they make with the border pairs.
use Rattle.std.proofs.Common.{◌≡◌, ◌≢◌, ℕ, zero, suc, ◌+◌, ◌-◌, ◌<◌, ◌≤◌, inl, inr, List, [], ◌∷◌, ◌++◌, length, sym, ◌∙◌, ap, subst, arith}
use Rattle.std.specs.List.{Any, Contains, sum_by}
use Rattle.std.specs.Int.{div_ceil}
use Rattle.std.proofs.lemmas.Int.{ints}
use Rattle.std.proofs.lemmas.List.Sums.{sum_by-append}
use Rattle.std.proofs.lemmas.List.Kept.{AllPairs-cons}
use Rattle.std.proofs.lemmas.List.Elements.{All-append, Contains-get_or, Contains-append_left, Contains-append_right, Contains-append_cases}
use Rattle.plane.specs.declared.coordinates.Point.{Point}
use Rattle.plane.specs.declared.segment.Pair.{Pair}
use Rattle.plane.specs.Geometry.{point, orientation, AreOpposite, AreCrossing, HasAllLeft, IsBorderPair, IsClear, IsInner}
use Rattle.plane.proofs.laws.Area.{area_cycle, area_swap}
use Rattle.partition_defs.specs.Partition.{HasEnds, Joins, IsMet, ArePlane, MeetsNeeds, IsConvexPartition}
use Rattle.partition_defs.specs.Triangulation.{AreDistinct, IsBorderList}
use Rattle.price_defs.specs.declared.row.Row.{Row}
use Rattle.cost_defs.specs.Costs.{Costed, cost, total}
use Rattle.price_defs.specs.Rows.{AreRight}
use Rattle.price_defs.specs.Loads.{gives, takes, added, lost}
use Rattle.number_laws.proofs.ListSums.{contains_cases, contains_here, contains_later}
use Rattle.plane.proofs.laws.Border.{border_back}
use Rattle.price_defs.proofs.laws.Counted.{all_had, all_off}
use Rattle.price_defs.proofs.laws.Duality.{ceil-le}
use Rattle.tree_defs.specs.Leaves.{IsFreePart, leaf_value}
use Rattle.tree_defs.specs.Full.{IsSound}
use Rattle.tree_defs.specs.Laws.{MetIsPartition}
use Rattle.tree_defs.proofs.laws.Leaves.{in_border}

-- a segment that meets a need of an inner point is no border pair
free_met : (S : List Point) (A free : List Pair) → IsFreePart S A free → ((e : Pair) → Contains A e → e.hi < length S) → MeetsNeeds S A → MeetsNeeds S free
free_met S A free part inside met p pn inner q qn ne =
    let m : IsMet S A p q = met p pn inner q qn ne in
    let a : Any (λ (e : Pair). HasEnds e p m.0) A = m.2 in
    let e_in : Contains A a.1 = (a.0, a.2, a.3) in
    let off : ¬ IsBorderPair S a.1.lo a.1.hi = λ is. at_inner S p m.0 a.1 inner m.1 m.3.0 a.4 is in
    let f : Contains free a.1 = (part.exact a.1).1 (e_in, off) in
    (m.0, m.1, (f.0, a.1, f.1, f.2, a.4), m.3)
  where
    at_inner : (S : List Point) (p r : ℕ) (e : Pair) → IsInner S p → r < length S → r ≢ p → HasEnds e p r → ¬ IsBorderPair S e.lo e.hi
    at_inner S p r e inner rn ne (inl h) is = inner r rn ne (subst (λ x. IsBorderPair S x r) h.0 (subst (λ x. IsBorderPair S e.lo x) h.1 is))
    at_inner S p r e inner rn ne (inr h) is = inner r rn ne (border_back S r p (subst (λ x. IsBorderPair S x p) h.0 (subst (λ x. IsBorderPair S e.lo x) h.1 is)))

ceil_zero : (q : ℕ) → 0 < q → div_ceil 0 q ≡ 0
ceil_zero q h = let c : div_ceil 0 q ≤ 0 = ceil-le 0 q 0 h (omega arith) in omega (arith, c)

-- The leaf's value is the cost of the border pairs and of the free taken segments.
pub met_value : (S : List Point) (D : List Costed) (h q : ℕ) (rows : List Row) (A free : List Pair)
    → 3 ≤ length S → 0 < q → AreRight S rows → IsFreePart S A free → ((e : Pair) → Contains A e → e.hi < length S) → ArePlane S A → MeetsNeeds S A
    → leaf_value S D h q rows free ≡ h + total D free
met_value S D h q rows A free many qn right part inside plane met =
    let needs : MeetsNeeds S free = free_met S A free part inside met in
    let flat : ArePlane S free = λ e f ce cf. plane e f ((part.exact e).0 ce).0 ((part.exact f).0 cf).0 in
    let had : sum_by added rows ≤ sum_by (λ (e : Pair). gives S rows e.lo e.hi) free = all_had S free rows many needs right in
    let off : sum_by (λ (e : Pair). takes rows e.lo e.hi) free ≤ sum_by lost rows = all_off S free rows part.distinct flat right in
    let none : ((sum_by added rows + sum_by (λ (e : Pair). takes rows e.lo e.hi) free) - (sum_by lost rows + sum_by (λ (e : Pair). gives S rows e.lo e.hi) free)) ≡ 0 = omega (arith, had, off) in
    let c : div_ceil ((sum_by added rows + sum_by (λ (e : Pair). takes rows e.lo e.hi) free) - (sum_by lost rows + sum_by (λ (e : Pair). gives S rows e.lo e.hi) free)) q ≡ 0 =
    ap (λ n. div_ceil n q) none ∙ ceil_zero q qn in
    omega (arith, c)

-- A border pair crosses no segment.
one_side : (S : List Point) (i j k l : ℕ) → k < length S → l < length S → HasAllLeft S i j → ¬ AreOpposite (orientation S i j k) (orientation S i j l)
one_side S i j k l kn ln left (inl h) = absurd (omega (arith, ints, left k kn, h.0))
one_side S i j k l kn ln left (inr h) = absurd (omega (arith, ints, left l ln, h.1))

opposite_back : (S : List Point) (i j k l : ℕ) → AreOpposite (orientation S i j k) (orientation S i j l) → AreOpposite (orientation S j i k) (orientation S j i l)
opposite_back S i j k l (inl h) =
    inr (
      omega (arith, ints, h.0, area_cycle (point S j) (point S i) (point S k), area_swap (point S i) (point S j) (point S k)),
      omega (arith, ints, h.1, area_cycle (point S j) (point S i) (point S l), area_swap (point S i) (point S j) (point S l)),
    )
opposite_back S i j k l (inr h) =
    inl (
      omega (arith, ints, h.0, area_cycle (point S j) (point S i) (point S k), area_swap (point S i) (point S j) (point S k)),
      omega (arith, ints, h.1, area_cycle (point S j) (point S i) (point S l), area_swap (point S i) (point S j) (point S l)),
    )

not_opposite : (S : List Point) (i j k l : ℕ) → k < length S → l < length S → IsBorderPair S i j → ¬ AreOpposite (orientation S i j k) (orientation S i j l)
not_opposite S i j k l kn ln (c, inl left) h = one_side S i j k l kn ln left h
not_opposite S i j k l kn ln (c, inr left) h = one_side S j i k l kn ln left (opposite_back S i j k l h)

pub border_crosses_none : (S : List Point) (i j k l : ℕ) → k < length S → l < length S → IsBorderPair S i j → ¬ AreCrossing S i j k l
border_crosses_none S i j k l kn ln is (a, b) = not_opposite S i j k l kn ln is a

pub none_crosses_border : (S : List Point) (i j k l : ℕ) → i < length S → j < length S → IsBorderPair S k l → ¬ AreCrossing S i j k l
none_crosses_border S i j k l iN jN is (a, b) = not_opposite S k l i j iN jN is b

pub append_distinct : (B F : List Pair) → AreDistinct B → AreDistinct F → ((e : Pair) → Contains B e → ¬ Contains F e) → AreDistinct (B ++ F)
append_distinct [] F b f apart = f
append_distinct (x ∷ B) F b f apart =
    AllPairs-cons (λ (e g : Pair). e ≢ g) x (B ++ F)
    (All-append (λ g. x ≢ g) B F (λ k d l. b zero (suc k) d (omega arith) (omega (arith, l))) (λ k d l e. apart x (contains_here x B) (subst (Contains F) (sym e) (Contains-get_or F k d l))))
    (append_distinct B F (λ i j d l m. b (suc i) (suc j) d (omega (arith, l)) (omega (arith, m))) f (λ e c. apart e (contains_later x B e c)))

joins_more : (K L : List Pair) (i j : ℕ) → ((e : Pair) → Contains K e → Contains L e) → Joins K i j → Joins L i j
joins_more K L i j more a = let c : Contains L a.1 = more a.1 (a.0, a.2, a.3) in (c.0, a.1, c.1, c.2, a.4)

-- the convex partition of the border pairs and the free taken segments
pub met_partition : (S : List Point) (A B free : List Pair) → IsSound S A → IsBorderList S B → IsFreePart S A free → MeetsNeeds S A → IsConvexPartition S (B ++ free)
met_partition S A B free sound border part met =
    let needs : MeetsNeeds S free = free_met S A free part sound.inside met in
    let inside : (e : Pair) → Contains (B ++ free) e → e.hi < length S =
    λ e c. elim (Contains-append_cases B free e c) [ inl b ↦ border.within e b | inr f ↦ sound.inside e ((part.exact e).0 f).0 ] in
    record {
      within = inside;
      clear = λ e c. elim (Contains-append_cases B free e c) [ inl b ↦ (in_border S B border e b).0 | inr f ↦ sound.clear e ((part.exact e).0 f).0 ];
      plane = λ e f ce cf. elim (Contains-append_cases B free e ce) [
        | inl b ↦ border_crosses_none S e.lo e.hi f.lo f.hi (omega (arith, f.ordered, inside f cf)) (inside f cf) (in_border S B border e b)
        | inr x ↦ elim (Contains-append_cases B free f cf) [
          | inl b ↦ none_crosses_border S e.lo e.hi f.lo f.hi (omega (arith, e.ordered, inside e ce)) (inside e ce) (in_border S B border f b)
          | inr y ↦ sound.plane e f ((part.exact e).0 x).0 ((part.exact f).0 y).0
        ]
      ];
      border = λ i j l n is. joins_more B (B ++ free) i j (λ e c. Contains-append_left B free e c) ((border.exact i j l n).1 is);
      needs = λ p pn inner q qn ne. (let m : IsMet S free p q = needs p pn inner q qn ne in
          (m.0, m.1, joins_more free (B ++ free) p m.0 (λ e c. Contains-append_right B free e c) m.2, m.3));
    }

pub met_distinct : (S : List Point) (A B free : List Pair) → IsBorderList S B → IsFreePart S A free → AreDistinct (B ++ free)
met_distinct S A B free border part = append_distinct B free border.distinct part.distinct (λ e b f. ((part.exact e).0 f).1 (in_border S B border e b))

pub met_cost : (D : List Costed) (B free : List Pair) → total D (B ++ free) ≡ total D B + total D free
met_cost D B free = sum_by-append (λ (e : Pair). cost D e.lo e.hi) B free

-- a further segment that crosses none of them
pub sound_more : (S : List Point) (A : List Pair) (e : Pair) → IsSound S A → e.hi < length S → IsClear S e.lo e.hi
    → ((f : Pair) → Contains A f → (¬ AreCrossing S e.lo e.hi f.lo f.hi) × (¬ AreCrossing S f.lo f.hi e.lo e.hi)) → ¬ AreCrossing S e.lo e.hi e.lo e.hi → IsSound S (e ∷ A)
sound_more S A e sound n clear off self =
    record {
      inside = λ f c. elim (contains_cases e A f c) [ inl h ↦ subst (λ (x : Pair). x.hi < length S) h n | inr t ↦ sound.inside f t ];
      clear = λ f c. elim (contains_cases e A f c) [ inl h ↦ subst (λ (x : Pair). IsClear S x.lo x.hi) h clear | inr t ↦ sound.clear f t ];
      plane = λ f g cf cg. elim (contains_cases e A f cf) [
        | inl h ↦ elim (contains_cases e A g cg) [
          | inl k ↦ subst (λ (x : Pair). ¬ AreCrossing S f.lo f.hi x.lo x.hi) k (subst (λ (x : Pair). ¬ AreCrossing S x.lo x.hi e.lo e.hi) h self)
          | inr u ↦ subst (λ (x : Pair). ¬ AreCrossing S x.lo x.hi g.lo g.hi) h ((off g u).0)
        ]
        | inr t ↦ elim (contains_cases e A g cg) [
          | inl k ↦ subst (λ (x : Pair). ¬ AreCrossing S f.lo f.hi x.lo x.hi) k ((off f t).1)
          | inr u ↦ sound.plane f g t u
        ]
      ];
    }

pub met_is_partition : (S : List Point) → 3 ≤ length S → MetIsPartition S
met_is_partition S many D q rows A B free sound met border part qn right = (
  met_partition S A B free sound border part met,
  met_distinct S A B free border part,
  met_value S D (total D B) q rows A free many qn right part sound.inside sound.plane met ∙ sym (met_cost D B free),
)
