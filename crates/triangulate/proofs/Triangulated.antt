-- The pairs of the front with all points are a triangulation of sweep pairs.
use Rattle.std.proofs.Common.{◌≢◌, ℕ, ◌<◌, ◌⊎◌, inl, inr, List, length, arith}
use Rattle.plane.specs.declared.coordinates.Point.{Point}
use Rattle.plane.specs.declared.segment.Pair.{Pair}
use Rattle.plane.specs.Geometry.{point, orientation, IsClear, IsBorderPair}
use Rattle.plane.specs.Accepted.{AreApart}
use Rattle.partition_defs.specs.Partition.{Joins}
use Rattle.partition_defs.specs.Triangulation.{IsTriangulation, IsApex}
use Rattle.partition_defs.specs.Sweep.{IsSweptBefore, IsSweptBeforeLater, IsSweepPair, AreSweepPairs}
use Rattle.plane_laws.proofs.Between.{between_is_amid, amid_is_between}
use Rattle.triangulate.proofs.Field.{Setting, view, by_place}
use Rattle.triangulate.proofs.Final.{All, apex_of, border_of, linked, met_of, plane_of}
use Rattle.triangulate.proofs.Places.{sweep_setting, plane_laws, opposite_laws, opposite_turned}
use Rattle.triangulate.specs.Sides.{Clear}
use Rattle.triangulate.specs.Front.{Links, Sweeps, Apex, Pairs, Whole}
use Rattle.triangulate.specs.Swept.{opposite}
use Rattle.triangulate.specs.SweepSet.{IsSweepSet}
use Rattle.partition_defs.proofs.laws.Joined.{contains_joins}
use Rattle.number_laws.proofs.Naturals.{below_differs}
use Rattle.triangulate.specs.Swept.{swept_sight}
use Rattle.plane.proofs.laws.Border.{clear_back, border_back}
use Rattle.plane.proofs.laws.Crossings.{cross_first}

-- the front of the sweep over the points S with all of them in it
abbrev pub Swept : (S : List Point) → AreApart S → List Pair → (r r2 : List ℕ) → (z : ℕ) → Type 0
Swept S apart T r r2 z = Whole (swept_sight S (orientation S)) (swept_sight S (opposite S)) (Joins T) r r2 z

pub clear_from : (S : List Point) (apart : AreApart S) (i j : ℕ) → IsSweptBefore S i j → Clear (swept_sight S (orientation S)) i j → IsClear S i j
clear_from S apart i j hij clear k kn h =
    let m = between_is_amid (point S k) (point S i) (point S j) hij h.0 h.1 in clear k kn m.0 m.1 h.0

pub clear_to : (S : List Point) (apart : AreApart S) (i j : ℕ) → IsClear S i j → Clear (swept_sight S (orientation S)) i j
clear_to S apart i j clear s sn his hsj e = clear s sn (e, amid_is_between (point S s) (point S i) (point S j) his hsj e)

later : (S : List Point) (apart : AreApart S) (i j k : ℕ) → IsSweptBefore S i j → IsSweptBeforeLater S k i j → IsSweptBefore S k j
later S apart i j k hij (inl h) = (sweep_setting S apart).trans k i j h hij
later S apart i j k hij (inr h) = h

sweep_pair_ordered : (S : List Point) (apart : AreApart S) (i j : ℕ) → IsSweptBefore S i j → Sweeps (swept_sight S (orientation S)) i j → IsSweepPair S i j
sweep_pair_ordered S apart i j hij s =
    let E : Setting = sweep_setting S apart in (
      clear_from S apart i j hij s.clear,
      λ k l kn ln hk hl. s.alone k l kn ln (later S apart i j k hij hk) (later S apart i j l hij hl),
    )

sweep_pair_swap : (S : List Point) (apart : AreApart S) (i j : ℕ) → IsSweepPair S i j → IsSweepPair S j i
sweep_pair_swap S apart i j h = (
  clear_back S i j h.0,
  λ k l kn ln hk hl c. h.1 k l kn ln (elim hk [ inl x ↦ inr x | inr x ↦ inl x ]) (elim hl [ inl x ↦ inr x | inr x ↦ inl x ]) (cross_first (point S j) (point S i) (point S k) (point S l) c),
)

pub sweep_pair_of : (S : List Point) (apart : AreApart S) (T : List Pair) (r r2 : List ℕ) (z : ℕ) → Swept S apart T r r2 z → (i j : ℕ) → Joins T i j → IsSweepPair S i j
sweep_pair_of S apart T r r2 z m i j k =
    let E : Setting = sweep_setting S apart in
    let M : Pairs (view E (orientation S)) (Joins T) z = m.pairs in
    by_place E i j (M.in_first i j k) (M.in_first j i (M.back i j k))
    (λ h. sweep_pair_ordered S apart i j h (M.sweeps i j k h))
    (λ e. absurd (M.differ i j k e))
    (λ h. sweep_pair_swap S apart j i (sweep_pair_ordered S apart j i h (M.sweeps j i (M.back i j k) h)))

pub are_sweep_pairs : (S : List Point) (apart : AreApart S) (T : List Pair) (r r2 : List ℕ) (z : ℕ) → Swept S apart T r r2 z → AreSweepPairs S T
are_sweep_pairs S apart T r r2 z m e h = sweep_pair_of S apart T r r2 z m e.lo e.hi (contains_joins T e h)

border_ordered : (S : List Point) (apart : AreApart S) (T : List Pair) (r r2 : List ℕ) (z : ℕ) → Swept S apart T r r2 z → All (sweep_setting S apart) z
    → (i j : ℕ) → i < length S → j < length S → IsSweptBefore S i j → IsBorderPair S i j → Links z r i j ⊎ Links z r2 i j
border_ordered S apart T r r2 z m all i j iN jn hij h =
    border_of (sweep_setting S apart) (orientation S) (opposite S) (plane_laws S apart) (opposite_laws S apart) (opposite_turned S) (Joins T) r r2 z m all
    i j iN jn hij (clear_to S apart i j h.0) h.1

-- a border pair is a side of one of the chains, one way round or the other
pub border_links : (S : List Point) (apart : AreApart S) (T : List Pair) (r r2 : List ℕ) (z : ℕ) → Swept S apart T r r2 z → All (sweep_setting S apart) z
    → (i j : ℕ) → i < length S → j < length S → i ≢ j → IsBorderPair S i j → (Links z r i j ⊎ Links z r2 i j) ⊎ (Links z r j i ⊎ Links z r2 j i)
border_links S apart T r r2 z m all i j iN jn hne h =
    by_place (sweep_setting S apart) i j iN jn
    (λ p. inl (border_ordered S apart T r r2 z m all i j iN jn p h))
    (λ e. absurd (hne e))
    (λ p. inr (border_ordered S apart T r r2 z m all j i jn iN p (border_back S i j h)))

met_in : (S : List Point) (apart : AreApart S) (T : List Pair) (r r2 : List ℕ) (z : ℕ) → Swept S apart T r r2 z → (p : ℕ) → (q : ℕ) × Joins T p q → (q : ℕ) × (q < length S) × Joins T p q
met_in S apart T r r2 z m p h =
    let M : Pairs (swept_sight S (orientation S)) (Joins T) z = m.pairs in
    (h.0, M.in_first h.0 p (M.back p h.0 h.1), h.1)

apex_in : (S : List Point) (apart : AreApart S) (T : List Pair) (p q : ℕ) → Apex (swept_sight S (orientation S)) (Joins T) p q → (r : ℕ) × IsApex S T p q r
apex_in S apart T p q a = (a.r, record { within = a.r_in; first = a.first; second = a.second; left = a.left; empty = λ s sn np nq nr h. a.empty.none s sn np nq nr h })

pub is_triangulation : (S : List Point) (apart : AreApart S) (T : List Pair) (r r2 : List ℕ) (z u : ℕ) → Swept S apart T r r2 z → All (sweep_setting S apart) z
    → u < length S → u ≢ z → IsTriangulation S T
is_triangulation S apart T r r2 z u m all un hu =
    let E : Setting = sweep_setting S apart in
    let M : Pairs (view E (orientation S)) (Joins T) z = m.pairs in
    record {
      within = λ e h. M.in_first e.hi e.lo (M.back e.lo e.hi (contains_joins T e h));
      clear = λ e h. (sweep_pair_of S apart T r r2 z m e.lo e.hi (contains_joins T e h)).0;
      plane = λ e f he hf. plane_of E (orientation S) (plane_laws S apart) (Joins T) z M e.lo e.hi f.lo f.hi (contains_joins T e he) (contains_joins T f hf);
      border = λ i j hij jn h. elim (border_links S apart T r r2 z m all i j (omega arith) jn (below_differs i j hij) h) [
        | inl k ↦ linked E (orientation S) (opposite S) (Joins T) r r2 z m i j k
        | inr k ↦ M.back j i (linked E (orientation S) (opposite S) (Joins T) r r2 z m j i k)
      ];
      met = λ p pn. met_in S apart T r r2 z m p (met_of E (orientation S) (opposite S) (Joins T) r r2 z m all u un hu p pn);
      apex = λ p q j h. apex_in S apart T p q (apex_of E (orientation S) (opposite S) (plane_laws S apart) (opposite_turned S) (Joins T) r r2 z m all p q h.0 j h.1 h.2);
    }

-- each sweep pair is among the pairs
sweeps_of : (S : List Point) (apart : AreApart S) (i j : ℕ) → IsSweepPair S i j → Sweeps (swept_sight S (orientation S)) i j
sweeps_of S apart i j h = record { clear = clear_to S apart i j h.0; alone = λ k l kn ln hk hl. h.1 k l kn ln (inr hk) (inr hl) }

pub sweep_pair_joined : (S : List Point) (apart : AreApart S) (T : List Pair) (r r2 : List ℕ) (z : ℕ) → Swept S apart T r r2 z → All (sweep_setting S apart) z
    → (i j : ℕ) → i < length S → j < length S → i ≢ j → IsSweepPair S i j → Joins T i j
sweep_pair_joined S apart T r r2 z m all i j iN jn hne h =
    let M : Pairs (swept_sight S (orientation S)) (Joins T) z = m.pairs in
    by_place (sweep_setting S apart) i j iN jn
    (λ p. m.whole i j iN jn p (all j jn) (sweeps_of S apart i j h))
    (λ e. absurd (hne e))
    (λ p. M.back j i (m.whole j i jn iN p (all i iN) (sweeps_of S apart j i (sweep_pair_swap S apart i j h))))

pub is_sweep_set : (S : List Point) (apart : AreApart S) (T : List Pair) (r r2 : List ℕ) (z : ℕ) → Swept S apart T r r2 z → All (sweep_setting S apart) z → IsSweepSet S T
is_sweep_set S apart T r r2 z m all i j hij jn = (
  (λ k. sweep_pair_of S apart T r r2 z m i j k),
  (λ h. sweep_pair_joined S apart T r r2 z m all i j (omega arith) jn (below_differs i j hij) h),
)
