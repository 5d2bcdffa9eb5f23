-- A list has one judgement.
use Rattle.std.proofs.Common.{◌≡◌, ⊎_elim, inl, inr, ℕ, List, length, sym, refl, ◌∙◌, subst, ap, ◌↔◌}
use Rattle.std.proofs.lemmas.Bool.{cases_order}
use Rattle.plane.specs.declared.coordinates.Point.{Point}
use Rattle.plane.specs.declared.segment.Pair.{Pair}
use Rattle.plane.specs.First.{IsLeast, IsFirstPair}
use Rattle.plane.specs.Geometry.{IsBetween}
use Rattle.partition_defs.specs.Partition.{AreClear, ArePlane, HasBorder, MeetsNeeds, IsConvexPartition}
use Rattle.partition_defs.specs.Triangulation.{AreDistinct}
use Rattle.cp_judge.specs.declared.answer.Judgement.{Judgement}
use Rattle.cp_judge.specs.declared.answer.Judgement.TheVariants.{Convex, Doubled, NotClear, Crossing, MissingBorder, Unmet}
use Rattle.crossings.specs.Crossings.{IsPairAt, DoCrossAt}
use Rattle.cp_judge.specs.Violation.{IsRepeatedAt, IsDoubled, IsUnclearAt, IsNotClear, IsCrossing, IsMissing, IsMissingBorder, IsUnmetAt, HasUnmet, IsUnmet}
use Rattle.cp_judge.specs.Judgement.{IsJudgement}
use Rattle.plane.proofs.laws.Pairs.{pair_same}
use Rattle.crossings.proofs.laws.Ends.{stands_same}

pub least_same : (P : ℕ → Type 0) (n k m : ℕ) → IsLeast P n k → IsLeast P n m → k ≡ m
least_same P n k m h g =
    ⊎_elim (λ e. e) (λ u. ⊎_elim (λ l. absurd (g.before k l h.holds)) (λ l. absurd (h.before m l g.holds)) u) (cases_order k m)

row_same : (R : ℕ → ℕ → Type 0) (n i j k l : ℕ) → IsFirstPair R n i j → IsFirstPair R n k l → i ≡ k
row_same R n i j k l h g =
    ⊎_elim (λ e. e)
    (λ u. ⊎_elim (λ o. absurd (g.before i j h.ordered h.within (inl o) h.holds)) (λ o. absurd (h.before k l g.ordered g.within (inl o) g.holds)) u)
    (cases_order i k)

column_same : (R : ℕ → ℕ → Type 0) (n i j k l : ℕ) → i ≡ k → IsFirstPair R n i j → IsFirstPair R n k l → j ≡ l
column_same R n i j k l s h g =
    ⊎_elim (λ e. e)
    (λ u. ⊎_elim (λ o. absurd (g.before i j h.ordered h.within (inr (s, o)) h.holds)) (λ o. absurd (h.before k l g.ordered g.within (inr (sym s, o)) g.holds)) u)
    (cases_order j l)

stands_at_same : (K : List Pair) (k m : ℕ) (e f : Pair) → k ≡ m → IsPairAt K k e → IsPairAt K m f → e ≡ f
stands_at_same K k m e f s h g = let P : ℕ → Type 0 = λ x. IsPairAt K x e in stands_same K m e f (subst P s h) g

doubled_same : (K : List Pair) (e f : Pair) → IsDoubled K e → IsDoubled K f → e ≡ f
doubled_same K e f h g = stands_at_same K h.0 g.0 e f (least_same (IsRepeatedAt K) (length K) h.0 g.0 h.2 g.2) h.1 g.1

not_clear_same : (S : List Point) (K : List Pair) (e f : Pair) (p q : ℕ) → IsNotClear S K e p → IsNotClear S K f q → (e ≡ f) × (p ≡ q)
not_clear_same S K e f p q h g =
    let s : e ≡ f = stands_at_same K h.0 g.0 e f (least_same (IsUnclearAt S K) (length K) h.0 g.0 h.2 g.2) h.1 g.1 in
    let Q : Pair → Type 0 = λ x. IsLeast (λ r. IsBetween S r x.lo x.hi) (length S) p in
    (s, least_same (λ r. IsBetween S r f.lo f.hi) (length S) p q (subst Q s h.3) g.3)

crossing_same : (S : List Point) (K : List Pair) (e e' f f' : Pair) → IsCrossing S K e f → IsCrossing S K e' f' → (e ≡ e') × (f ≡ f')
crossing_same S K e e' f f' h g =
    let a : h.0 ≡ g.0 = row_same (DoCrossAt S K) (length K) h.0 h.1 g.0 g.1 h.4 g.4 in
    let b : h.1 ≡ g.1 = column_same (DoCrossAt S K) (length K) h.0 h.1 g.0 g.1 a h.4 g.4 in
    (stands_at_same K h.0 g.0 e e' a h.2 g.2, stands_at_same K h.1 g.1 f f' b h.3 g.3)

missing_same : (S : List Point) (K : List Pair) (e f : Pair) → IsMissingBorder S K e → IsMissingBorder S K f → e ≡ f
missing_same S K e f h g =
    let a : e.lo ≡ f.lo = row_same (IsMissing S K) (length S) e.lo e.hi f.lo f.hi h g in
    pair_same e f a (column_same (IsMissing S K) (length S) e.lo e.hi f.lo f.hi a h g)

unmet_same : (S : List Point) (K : List Pair) (p p' q q' : ℕ) → IsUnmet S K p q → IsUnmet S K p' q' → (p ≡ p') × (q ≡ q')
unmet_same S K p p' q q' h g =
    let s : p ≡ p' = least_same (HasUnmet S K) (length S) p p' h.0 g.0 in
    let Q : ℕ → Type 0 = λ x. IsLeast (IsUnmetAt S K x) (length S) q in
    (s, least_same (IsUnmetAt S K p') (length S) q q' (subst Q s h.1) g.1)

doubled_refutes : (K : List Pair) (e : Pair) → IsDoubled K e → ¬ AreDistinct K
doubled_refutes K e h d =
    let u = h.2.holds in d u.1 h.0 u.0 u.2 u.4.0 (u.3.1 ∙ sym u.4.1)

not_clear_refutes : (S : List Point) (K : List Pair) (e : Pair) (p : ℕ) → IsNotClear S K e p → ¬ AreClear S K
not_clear_refutes S K e p h d = d e (h.0, h.1.0, h.1.1) p h.3.within h.3.holds

crossing_refutes : (S : List Point) (K : List Pair) (e f : Pair) → IsCrossing S K e f → ¬ ArePlane S K
crossing_refutes S K e f h d =
    let u = h.4.holds in d u.0 u.1 (h.0, u.2.0, u.2.1) (h.1, u.3.0, u.3.1) u.4

missing_refutes : (S : List Point) (K : List Pair) (e : Pair) → IsMissingBorder S K e → ¬ HasBorder S K
missing_refutes S K e h d = h.holds.1 (d e.lo e.hi h.ordered h.within h.holds.0)

unmet_refutes : (S : List Point) (K : List Pair) (p q : ℕ) → IsUnmet S K p q → ¬ MeetsNeeds S K
unmet_refutes S K p q h d =
    let u = h.0.holds in u.1.2.1 (d p h.0.within u.0 u.1.0 u.1.1 u.1.2.0)

pub same_judgement : (S : List Point) (K : List Pair) (i j : Judgement) → IsJudgement S K i → IsJudgement S K j → i ≡ j
same_judgement S K (Doubled e) (Doubled e') h g = ap Doubled (doubled_same K e e' h g)
same_judgement S K (Doubled e) (NotClear e' p') h g = absurd (doubled_refutes K e h g.0)
same_judgement S K (Doubled e) (Crossing e' f') h g = absurd (doubled_refutes K e h g.0)
same_judgement S K (Doubled e) (MissingBorder e') h g = absurd (doubled_refutes K e h g.0)
same_judgement S K (Doubled e) (Unmet p' q') h g = absurd (doubled_refutes K e h g.0)
same_judgement S K (Doubled e) (Convex c') h g = absurd (doubled_refutes K e h g.1)
same_judgement S K (NotClear e p) (Doubled e') h g = absurd (doubled_refutes K e' g h.0)
same_judgement S K (NotClear e p) (NotClear e' p') h g = let s = not_clear_same S K e e' p p' h.1 g.1 in ap (λ x. NotClear x p) s.0 ∙ ap (λ y. NotClear e' y) s.1
same_judgement S K (NotClear e p) (Crossing e' f') h g = absurd (not_clear_refutes S K e p h.1 g.1)
same_judgement S K (NotClear e p) (MissingBorder e') h g = absurd (not_clear_refutes S K e p h.1 g.1)
same_judgement S K (NotClear e p) (Unmet p' q') h g = absurd (not_clear_refutes S K e p h.1 g.1)
same_judgement S K (NotClear e p) (Convex c') h g = absurd (not_clear_refutes S K e p h.1 g.2.clear)
same_judgement S K (Crossing e f) (Doubled e') h g = absurd (doubled_refutes K e' g h.0)
same_judgement S K (Crossing e f) (NotClear e' p') h g = absurd (not_clear_refutes S K e' p' g.1 h.1)
same_judgement S K (Crossing e f) (Crossing e' f') h g = let s = crossing_same S K e e' f f' h.2 g.2 in ap (λ x. Crossing x f) s.0 ∙ ap (λ y. Crossing e' y) s.1
same_judgement S K (Crossing e f) (MissingBorder e') h g = absurd (crossing_refutes S K e f h.2 g.2)
same_judgement S K (Crossing e f) (Unmet p' q') h g = absurd (crossing_refutes S K e f h.2 g.2)
same_judgement S K (Crossing e f) (Convex c') h g = absurd (crossing_refutes S K e f h.2 g.2.plane)
same_judgement S K (MissingBorder e) (Doubled e') h g = absurd (doubled_refutes K e' g h.0)
same_judgement S K (MissingBorder e) (NotClear e' p') h g = absurd (not_clear_refutes S K e' p' g.1 h.1)
same_judgement S K (MissingBorder e) (Crossing e' f') h g = absurd (crossing_refutes S K e' f' g.2 h.2)
same_judgement S K (MissingBorder e) (MissingBorder e') h g = ap MissingBorder (missing_same S K e e' h.3 g.3)
same_judgement S K (MissingBorder e) (Unmet p' q') h g = absurd (missing_refutes S K e h.3 g.3)
same_judgement S K (MissingBorder e) (Convex c') h g = absurd (missing_refutes S K e h.3 g.2.border)
same_judgement S K (Unmet p q) (Doubled e') h g = absurd (doubled_refutes K e' g h.0)
same_judgement S K (Unmet p q) (NotClear e' p') h g = absurd (not_clear_refutes S K e' p' g.1 h.1)
same_judgement S K (Unmet p q) (Crossing e' f') h g = absurd (crossing_refutes S K e' f' g.2 h.2)
same_judgement S K (Unmet p q) (MissingBorder e') h g = absurd (missing_refutes S K e' g.3 h.3)
same_judgement S K (Unmet p q) (Unmet p' q') h g = let s = unmet_same S K p p' q q' h.4 g.4 in ap (λ x. Unmet x q) s.0 ∙ ap (λ y. Unmet p' y) s.1
same_judgement S K (Unmet p q) (Convex c') h g = absurd (unmet_refutes S K p q h.4 g.2.needs)
same_judgement S K (Convex c) (Doubled e') h g = absurd (doubled_refutes K e' g h.1)
same_judgement S K (Convex c) (NotClear e' p') h g = absurd (not_clear_refutes S K e' p' g.1 h.2.clear)
same_judgement S K (Convex c) (Crossing e' f') h g = absurd (crossing_refutes S K e' f' g.2 h.2.plane)
same_judgement S K (Convex c) (MissingBorder e') h g = absurd (missing_refutes S K e' g.3 h.2.border)
same_judgement S K (Convex c) (Unmet p' q') h g = absurd (unmet_refutes S K p' q' g.4 h.2.needs)
same_judgement S K (Convex c) (Convex c') h g = ap Convex (h.0 ∙ sym g.0)

pub convex_exactly : (S : List Point) (K : List Pair) (j : Judgement) → IsJudgement S K j
    → (j ≡ Convex (length K)) ↔ (AreDistinct K × IsConvexPartition S K)
convex_exactly S K j h =
    let P : Judgement → Type 0 = λ i. IsJudgement S K i in
    (λ e. let g = subst P e h in (g.1, g.2), λ u. same_judgement S K j (Convex (length K)) h (refl, u.0, u.1))
