-- Pairs at positions of a list, and the first violations among them.
use Rattle.std.proofs.Common.{◌≡◌, ◌<◌, ◌+◌, below_more, ⊎_elim, ℕ, List, length, slice_index_or, sym, ◌∙◌, subst, arith}
use Rattle.std.proofs.lemmas.Bool.{cases_order}
use Rattle.std.proofs.lemmas.List.{get_or_default}
use Rattle.plane.specs.declared.coordinates.Point.{Point}
use Rattle.plane.specs.declared.segment.Pair.{Pair}
use Rattle.plane.specs.First.{IsLeast}
use Rattle.plane.specs.Geometry.{point, IsBetween, IsClear, AreCrossing}
use Rattle.partition_defs.specs.Partition.{ArePlane}
use Rattle.partition_defs.specs.Triangulation.{AreDistinct}
use Rattle.plane.proofs.laws.Area.{area_first}
use Rattle.crossings.specs.Crossings.{IsPairAt, DoCrossAt}
use Rattle.crossings.proofs.laws.Ends.{stands_same}
use Rattle.cp_judge.specs.Violation.{IsRepeatedAt, IsNotClear, IsCrossing}
use Rattle.plane.proofs.laws.Opposite.{not_opposite_zero}

pub stands : (K : List Pair) (k : ℕ) (d : Pair) → k < length K → IsPairAt K k (slice_index_or K k d)
stands K k d l = (l, get_or_default K k (slice_index_or K k d) d l)

pub distinct_from : (K : List Pair) → ((k : ℕ) → k < length K → ¬ IsRepeatedAt K k) → AreDistinct K
distinct_from K none i j d l m e =
    let li : i < length K = omega arith in
    none j m (slice_index_or K j d, i, l, (li, get_or_default K i (slice_index_or K j d) d li ∙ e), stands K j d m)

pub not_clear_found : (S : List Point) (K : List Pair) (k : ℕ) (e : Pair) (p : ℕ) → IsPairAt K k e
    → IsLeast (λ q. IsBetween S q e.lo e.hi) (length S) p
    → ((j : ℕ) (f : Pair) → j < k → slice_index_or K j f ≡ f → IsClear S f.lo f.hi) → IsNotClear S K e p
not_clear_found S K k e p st least before =
    (k, st, record { within = st.0; holds = (e, p, st, least.within, least.holds); before = λ j m u. before j u.0 m u.2.1 u.1 u.3 u.4 }, least)

-- one more clear pair
pub clear_more : (S : List Point) (K : List Pair) (i : ℕ) (e : Pair) → IsPairAt K i e → IsClear S e.lo e.hi
    → ((k : ℕ) (f : Pair) → k < i → slice_index_or K k f ≡ f → IsClear S f.lo f.hi) → (k : ℕ) (f : Pair) → k < i + 1 → slice_index_or K k f ≡ f → IsClear S f.lo f.hi
clear_more S K i e st clear before k f l is =
    below_more (λ (k : ℕ). (f : Pair) → slice_index_or K k f ≡ f → IsClear S f.lo f.hi) i (λ k m f is. before k f m is)
    (λ f is. let P : Pair → Type 0 = λ x. IsClear S x.lo x.hi in subst P (stands_same K i e f st (st.0, is)) clear) k l f is

pub crosses_itself : (S : List Point) (a b : ℕ) → ¬ AreCrossing S a b a b
crosses_itself S a b h = not_opposite_zero _ _ (area_first (point S a) (point S b)) h.0

same_position : (S : List Point) (K : List Pair) (k m : ℕ) (e f : Pair) → k ≡ m → IsPairAt K k e → IsPairAt K m f
    → ¬ AreCrossing S e.lo e.hi f.lo f.hi
same_position S K k m e f s he hf h =
    let P : ℕ → Type 0 = λ x. IsPairAt K x e in
    let same : e ≡ f = stands_same K m e f (subst P s he) hf in
    let Q : Pair → Type 0 = λ x. AreCrossing S e.lo e.hi x.lo x.hi in
    crosses_itself S e.lo e.hi (subst Q (sym same) h)

pub plane_from : (S : List Point) (K : List Pair) → ((k m : ℕ) → k < m → m < length K → ¬ DoCrossAt S K k m) → ArePlane S K
plane_from S K none e f he hf h =
    ⊎_elim (λ s. same_position S K he.0 hf.0 e f s (he.1, he.2) (hf.1, hf.2) h)
    (λ u. ⊎_elim (λ l. none he.0 hf.0 l hf.1 (e, f, (he.1, he.2), (hf.1, hf.2), h))
    (λ l. none hf.0 he.0 l he.1 (f, e, (hf.1, hf.2), (he.1, he.2), (h.1, h.0))) u)
    (cases_order he.0 hf.0)

pub crossing_found : (S : List Point) (K : List Pair) (a b : ℕ) (e f : Pair) → IsPairAt K a e → IsPairAt K b f
    → a < b → DoCrossAt S K a b
    → ((k m : ℕ) → k < a → k < m → m < length K → ¬ DoCrossAt S K k m)
    → ((m : ℕ) → a < m → m < b → ¬ DoCrossAt S K a m) → IsCrossing S K e f
crossing_found S K a b e f se sf l h before after = (
  a,
  b,
  se,
  sf,
  record {
    ordered = l;
    within = sf.0;
    holds = h;
    before = λ k m o n c. ⊎_elim (λ lk. before k m lk o n)
        (λ u. let P : ℕ → Type 0 = λ x. ¬ DoCrossAt S K x m in
        let Q : ℕ → Type 0 = λ x. x < m in
        subst P (sym u.0) (after m (subst Q u.0 o) u.1)) c;
  },
)
