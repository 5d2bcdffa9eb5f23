-- Items written into a list, blocks of no length, and segments in another order.
use Rattle.std.proofs.Common.{◌≢◌, ℕ, ◌+◌, ◌<◌, List, length, slice_index_or, set, replicate, get_or-set_other, get_or-set_same, below_more, subst, sym, ⊎_elim, arith}
use Rattle.std.specs.List.Sorted.{IsPermutation}
use Rattle.std.proofs.lemmas.Bool.{cases_order}
use Rattle.std.proofs.lemmas.List.{get_or-replicate}
use Rattle.std.proofs.lemmas.List.Sorted.{All-permutation, Contains-permutation}
use Rattle.plane.specs.declared.coordinates.Point.{Point}
use Rattle.plane.specs.declared.segment.Pair.{Pair}
use Rattle.crossings.specs.declared.segments.Segment.{Segment}
use Rattle.crossings.specs.declared.blocks.Block.{Block}
use Rattle.crossings.specs.Segments.{block, IsSegment, AreSegments, HasNearBoxes}

-- one more item of a list, after those before it
pub set_more : {X : Type 0} (P : ℕ → X → Type 0) (Z : List X) (p : ℕ) (z d : X) → p < length Z → P p z → ((k : ℕ) → k < p → P k (slice_index_or Z k d))
    → (k : ℕ) → k < p + 1 → P k (slice_index_or (set Z p z) k d)
set_more {X} P Z p z d hp here before = below_more (λ k. P k (slice_index_or (set Z p z) k d)) p
    (λ k l. (let ne : k ≢ p = omega arith in let Q : X → Type 0 = λ w. P k w in subst Q (sym (get_or-set_other Z p k z d ne)) (before k l)))
    (let Q : X → Type 0 = λ w. P p w in subst Q (sym (get_or-set_same Z p z d hp)) here)

-- an item written into a list of items with one property
pub set_all : {X : Type 0} (P : X → Type 0) (Z : List X) (p : ℕ) (z d : X) → p < length Z → P z → ((k : ℕ) → k < length Z → P (slice_index_or Z k d))
    → (k : ℕ) → k < length Z → P (slice_index_or (set Z p z) k d)
set_all {X} P Z p z d hp here all k l =
    ⊎_elim (λ e. let Q : ℕ → Type 0 = λ i. P (slice_index_or (set Z p z) i d) in subst Q (sym e) (subst P (sym (get_or-set_same Z p z d hp)) here))
    (λ u. let ne : k ≢ p = ⊎_elim (λ l. (λ e. omega arith)) (λ l. (λ e. omega arith)) u in subst P (sym (get_or-set_other Z p k z d ne)) (all k l))
    (cases_order k p)

-- segments in another order
pub segments_moved : (S : List Point) (K : List Pair) (X Y : List Segment) → IsPermutation X Y → AreSegments S K X → AreSegments S K Y
segments_moved S K X Y perm h = record {
  each = All-permutation (IsSegment S K) X Y perm h.each;
  whole = λ k l. (let u = h.whole k l in let c = Contains-permutation X Y u.1 perm (u.0, u.2, u.3) in (c.0, u.1, c.1, c.2, u.4));
}

pub near_replicate : (n : ℕ) (b : Block) → HasNearBoxes b → (i : ℕ) → i < n → HasNearBoxes (block (replicate n b) i)
near_replicate n b h i l = subst HasNearBoxes (sym (get_or-replicate n i b _ l)) h
