-- Laws of costs: what a list of costs gives for a pair that it has, and for one that it hasn't, and how large costs are.
use Rattle.std.proofs.Common.{◌⊎◌, ⊎_elim, Ordering, nat_cmp, ◌≡◌, ◌<◌, ◌≤◌, ◌*◌, ℕ, true, false, cond, List, [], ◌∷◌, length, get_or, refl, arith, inl, inr, zero, suc, ◌∙◌, sym, ap, subst, ap₂}
use Rattle.std.specs.Ordering.{ordering_then}
use Rattle.std.specs.Cmp.{IsTotalOrder}
use Rattle.std.specs.declared.cmp.Ordering.TheVariants.{Less, Equal}
use Rattle.std.proofs.lemmas.Bool.{cases_lt, cases_order}
use Rattle.std.proofs.lemmas.Cmp.{then_total, on_total, nat_cmp_total}
use Rattle.std.proofs.lemmas.Bool.Decides.{nat_tests}
use Rattle.std.proofs.lemmas.List.Sums.{sum_by-le}
use Rattle.std.specs.List.{All}
use Rattle.plane.specs.declared.segment.Pair.{Pair}
use Rattle.plane.specs.First.{ComesBefore}
use Rattle.plane.proofs.laws.Pairs.{pair_same}
use Rattle.cost_defs.specs.Costs.{Costed, IsCostedBefore, has_ends, cost, total, AreCosts}

-- the order of pairs
abbrev pub pair_cmp : (e f : Pair) → Ordering
pair_cmp e f = ordering_then (nat_cmp e.lo f.lo) (nat_cmp e.hi f.hi)

pub pair_total : IsTotalOrder pair_cmp
pair_total = then_total (on_total (λ (e : Pair). e.lo) nat_cmp_total) (on_total (λ (e : Pair). e.hi) nat_cmp_total)

pub pair_cmp-equal_lo : (e f : Pair) → pair_cmp e f ≡ Equal → e.lo ≡ f.lo
pair_cmp-equal_lo e f h = grind (arith, nat_tests)

pub pair_cmp-equal_hi : (e f : Pair) → pair_cmp e f ≡ Equal → e.hi ≡ f.hi
pair_cmp-equal_hi e f h = grind (arith, nat_tests)

pub pair_cmp-less : (x y : Costed) → pair_cmp x.0 y.0 ≡ Less → IsCostedBefore x y
pair_cmp-less x y h =
    let off : y.0.lo ≤ x.0.lo → (y.0.lo ≡ x.0.lo → y.0.hi ≤ x.0.hi) → ⊥ = λ l m. grind (arith, nat_tests) in
    ⊎_elim (λ same. ⊎_elim (λ m. inr (same, m)) (λ m. absurd (off (omega arith) (λ _. m))) (cases_lt x.0.hi y.0.hi))
    (λ u. ⊎_elim (λ l. inl l) (λ l. absurd (off (omega arith) (λ s. omega arith))) u) (cases_order x.0.lo y.0.lo)

pub IsCostedBefore-trans : (x y z : Costed) → IsCostedBefore x y → IsCostedBefore y z → IsCostedBefore x z
IsCostedBefore-trans x y z (inl h) (inl k) = inl (omega arith)
IsCostedBefore-trans x y z (inl h) (inr k) = inl (omega (arith, h, k.0))
IsCostedBefore-trans x y z (inr h) (inl k) = inl (omega (arith, h.0, k))
IsCostedBefore-trans x y z (inr h) (inr k) = inr (h.0 ∙ k.0, omega (arith, h.1, k.1))

pub has_ends-lo : (e f : Pair) → has_ends e f.lo f.hi ≡ true → e.lo ≡ f.lo
has_ends-lo e f h = let eo = e.ordered in let fo = f.ordered in grind (arith, nat_tests)

pub has_ends-hi : (e f : Pair) → has_ends e f.lo f.hi ≡ true → e.hi ≡ f.hi
has_ends-hi e f h = let eo = e.ordered in let fo = f.ordered in grind (arith, nat_tests)

-- a pair has its own ends
pub has_ends-own : (e f : Pair) → e.lo ≡ f.lo → e.hi ≡ f.hi → has_ends e f.lo f.hi ≡ true
has_ends-own e f lo hi = grind (arith, nat_tests)

-- the ends of a pair are those of no other
pub has_ends-other : (e f : Pair) → (e.lo ≡ f.lo → e.hi ≡ f.hi → ⊥) → has_ends e f.lo f.hi ≡ false
has_ends-other e f apart = let eo = e.ordered in let fo = f.ordered in grind (arith, nat_tests)

-- a pair that no item has costs 1
pub cost-absent : (D : List Costed) (i j : ℕ) → All (λ x. has_ends x.0 i j ≡ false) D → cost D i j ≡ 1
cost-absent [] i j none = refl
cost-absent (x ∷ D) i j none =
    rw (none 0 x (omega arith)) (cost-absent D i j (λ k d l. none (suc k) d (omega arith)))

-- the first item that has a pair gives its cost
pub cost-first : (D : List Costed) (i j k : ℕ) (d : Costed) → k < length D → ((l : ℕ) → l < k → has_ends (get_or D l d).0 i j ≡ false) → has_ends (get_or D k d).0 i j ≡ true → cost D i j ≡ (get_or D k d).1
cost-first [] i j k d l before it = absurd (omega (arith, l))
cost-first (x ∷ D) i j zero d l before it = rw it refl
cost-first (x ∷ D) i j (suc k) d l before it =
    rw (before 0 (omega arith)) (cost-first D i j k d (omega arith) (λ m n. before (suc m) (omega arith)) it)

-- the item of a pair gives its cost
pub cost-listed : (D : List Costed) (e : Pair) (k : ℕ) (d : Costed) → AreCosts D → k < length D → (get_or D k d).0.lo ≡ e.lo → (get_or D k d).0.hi ≡ e.hi → cost D e.lo e.hi ≡ (get_or D k d).1
cost-listed D e k d costs l lo hi =
    cost-first D e.lo e.hi k d l (λ m n. has_ends-other (get_or D m d).0 e (λ a b. before (get_or D m d) (costs.ascending m k d n l) a b)) (has_ends-own (get_or D k d).0 e lo hi)
  where
    before : (x : Costed) → ComesBefore x.0.lo x.0.hi (get_or D k d).0.lo (get_or D k d).0.hi → x.0.lo ≡ e.lo → x.0.hi ≡ e.hi → ⊥
    before x (inl h) a b = omega (arith, h, a, b, lo, hi)
    before x (inr h) a b = omega (arith, h.0, h.1, a, b, lo, hi)

-- no cost is above 1,000
pub cost-le : (D : List Costed) (i j : ℕ) → All (λ x. x.1 ≤ 1000) D → cost D i j ≤ 1000
cost-le [] i j small = omega arith
cost-le (x ∷ D) i j small =
    elim (has_ends x.0 i j) as (λ b. cond b x.1 (cost D i j) ≤ 1000) [
      | true ↦ small 0 x (omega arith)
      | false ↦ cost-le D i j (λ k d l. small (suc k) d (omega arith))
    ]

-- the sum of the costs of a list of pairs
pub total-le : (D : List Costed) (K : List Pair) → All (λ x. x.1 ≤ 1000) D → total D K ≤ length K * 1000
total-le D K small = sum_by-le (λ (e : Pair). cost D e.lo e.hi) 1000 K (λ k d l. cost-le D (get_or K k d).lo (get_or K k d).hi small)

-- ---- two lists of costs that give each pair the same cost are one

head_absent : (x : Costed) (D : List Costed) → ((y : Costed) (k : ℕ) → k < length D → IsCostedBefore x (get_or D k y)) → cost D x.0.lo x.0.hi ≡ 1
head_absent x D later = cost-absent D x.0.lo x.0.hi (λ k d l. has_ends-other (get_or D k d).0 x.0 (λ lo hi. clash (get_or D k d) (later d k l) lo hi))
  where
    clash : (y : Costed) → IsCostedBefore x y → y.0.lo ≡ x.0.lo → y.0.hi ≡ x.0.hi → ⊥
    clash y (inl h) lo hi = omega arith
    clash y (inr h) lo hi = omega (arith, h.1)

tail_costs : (x : Costed) (D : List Costed) → AreCosts (x ∷ D) → AreCosts D
tail_costs x D h = record {
  ascending = λ i j d l m. h.ascending (suc i) (suc j) d (omega arith) (omega arith);
  within = λ k d l. h.within (suc k) d (omega arith);
  other = λ k d l. h.other (suc k) d (omega arith);
}

head_first : (x : Costed) (D : List Costed) → AreCosts (x ∷ D) → (y : Costed) (k : ℕ) → k < length D → IsCostedBefore x (get_or D k y)
head_first x D h y k l = h.ascending 0 (suc k) y (omega arith) (omega arith)

-- a pair that comes before the first has cost 1
before_first : (x y : Costed) (D : List Costed) → AreCosts (y ∷ D) → IsCostedBefore x y → cost (y ∷ D) x.0.lo x.0.hi ≡ 1
before_first x y D h b = head_absent x (y ∷ D) (λ d k l. later d k l)
  where
    later : (d : Costed) (k : ℕ) → k < length (y ∷ D) → IsCostedBefore x (get_or (y ∷ D) k d)
    later d zero l = b
    later d (suc k) l = IsCostedBefore-trans x y (get_or D k d) b (h.ascending 0 (suc k) d (omega arith) (omega (arith, l)))

head_cost : (x : Costed) (D : List Costed) → cost (x ∷ D) x.0.lo x.0.hi ≡ x.1
head_cost x D = rw (has_ends-own x.0 x.0 refl refl) refl

-- two lists of costs that give each pair the same cost are one
pub costs_once : (D E : List Costed) → AreCosts D → AreCosts E → ((i j : ℕ) → i < j → cost D i j ≡ cost E i j) → D ≡ E
costs_once [] [] h k same = refl
costs_once [] (y ∷ E) h k same = absurd (k.other 0 y (omega arith) (sym (head_cost y E) ∙ sym (same y.0.lo y.0.hi y.0.ordered)))
costs_once (x ∷ D) [] h k same = absurd (h.other 0 x (omega arith) (sym (head_cost x D) ∙ same x.0.lo x.0.hi x.0.ordered))
costs_once (x ∷ D) (y ∷ E) h k same =
    by_order (which x.0 y.0) (λ e. costs_once D E (tail_costs x D h) (tail_costs y E k) (rest e))
  where
    which : (e f : Pair) → ComesBefore e.lo e.hi f.lo f.hi ⊎ (ComesBefore f.lo f.hi e.lo e.hi ⊎ (e ≡ f))
    which e f = ⊎_elim (λ lo. ⊎_elim (λ hi. inr (inr (pair_same e f lo hi))) (λ u. ⊎_elim (λ l. inl (inr (lo, l))) (λ l. inr (inl (inr (sym lo, l)))) u) (cases_order e.hi f.hi)) (λ u. ⊎_elim (λ l. inl (inl l)) (λ l. inr (inl (inl l))) u) (cases_order e.lo f.lo)

    rest : x.0 ≡ y.0 → (i j : ℕ) → i < j → cost D i j ≡ cost E i j
    rest e i j l =
        let f : Pair = record { lo = i; hi = j; ordered = l } in
        let whole = same i j l in
        elim (has_ends x.0 i j) as (λ b. has_ends x.0 i j ≡ b → cost D i j ≡ cost E i j) [
          | true ↦ λ t. one_of t
          | false ↦ λ t. (let u : has_ends y.0 i j ≡ false = subst (λ (p : Pair). has_ends p i j ≡ false) e t in
              let left : cost (x ∷ D) i j ≡ cost D i j = rw t refl in
              let right : cost (y ∷ E) i j ≡ cost E i j = rw u refl in
              sym left ∙ whole ∙ right)
        ] refl
      where
        one_of : has_ends x.0 i j ≡ true → cost D i j ≡ cost E i j
        one_of t =
            let f : Pair = record { lo = i; hi = j; ordered = l } in
            let lo : x.0.lo ≡ i = has_ends-lo x.0 f t in
            let hi : x.0.hi ≡ j = has_ends-hi x.0 f t in
            let left : cost D x.0.lo x.0.hi ≡ 1 = head_absent x D (head_first x D h) in
            let right : cost E y.0.lo y.0.hi ≡ 1 = head_absent y E (head_first y E k) in
            let here : cost E x.0.lo x.0.hi ≡ 1 = subst (λ (p : Pair). cost E p.lo p.hi ≡ 1) (sym e) right in
            subst (λ a. cost D a j ≡ cost E a j) lo (subst (λ b. cost D x.0.lo b ≡ cost E x.0.lo b) hi (left ∙ sym here))

    joined : x.0 ≡ y.0 → D ≡ E → (x ∷ D) ≡ (y ∷ E)
    joined e tails =
        let c : x.1 ≡ y.1 = sym (head_cost x D) ∙ same x.0.lo x.0.hi x.0.ordered ∙ ap (λ (p : Pair). cost (y ∷ E) p.lo p.hi) e ∙ head_cost y E in
        let head : x ≡ y = ap₂ (λ (p : Pair) (n : ℕ). (p, n)) e c in
        ap₂ (λ (a : Costed) (more : List Costed). a ∷ more) head tails

    by_order : ComesBefore x.0.lo x.0.hi y.0.lo y.0.hi ⊎ (ComesBefore y.0.lo y.0.hi x.0.lo x.0.hi ⊎ (x.0 ≡ y.0)) → (x.0 ≡ y.0 → D ≡ E) → (x ∷ D) ≡ (y ∷ E)
    by_order (inl b) again = absurd (h.other 0 x (omega arith) (sym (head_cost x D) ∙ same x.0.lo x.0.hi x.0.ordered ∙ before_first x y E k b))
    by_order (inr (inl b)) again = absurd (k.other 0 y (omega arith) (sym (head_cost y E) ∙ sym (same y.0.lo y.0.hi y.0.ordered) ∙ before_first y x D h b))
    by_order (inr (inr e)) again = joined e (again e)
