-- The segments of a list as they are written and put in order, and blocks of them as they get their boxes.
use Rattle.std.proofs.Common.{◌≡◌, ℕ, ◌+◌, ◌*◌, ◌<◌, ◌≤◌, List, length, set, below_more, subst, sym, arith, ◌≤ℤ◌}
use Rattle.std.proofs.lemmas.List.{get_or_default, length-set}
use Rattle.std.proofs.lemmas.List.Elements.{All-from_get_or}
use Rattle.plane.specs.declared.coordinates.Point.{Point}
use Rattle.plane.specs.declared.segment.Pair.{Pair}
use Rattle.plane.specs.Accepted.{IsNear}
use Rattle.crossings.specs.declared.segments.Segment.{Segment}
use Rattle.crossings.specs.declared.blocks.Block.{Block}
use Rattle.crossings.specs.Crossings.{IsPairAt}
use Rattle.crossings.specs.Segments.{segment, AreEndsOf, IsSegment, AreSegments, HasNearBoxes, HasSegment, IsInBlock, IsBounded, AreBoundedBelow}
use Rattle.crossings.proofs.laws.Blocks.{set_more, set_all}
use Rattle.crossings.specs.Trying.{AreNearSegments}

-- the segments, each at the position of its pair
pub segments_placed : (S : List Point) (K : List Pair) (Z : List Segment) → length Z ≡ length K
    → ((k : ℕ) → k < length K → IsSegment S K (segment Z k) × ((segment Z k).place ≡ k)) → AreSegments S K Z
segments_placed S K Z count each = record {
  each = All-from_get_or (IsSegment S K) Z _ (λ k l. (let hk : k < length K = omega arith in (each k hk).0));
  whole = λ k l. (let hk : k < length Z = omega arith in (k, segment Z k, hk, get_or_default Z k (segment Z k) _ hk, (each k l).1));
}

-- one more of them
pub segments_more : (S : List Point) (K : List Pair) (Z : List Segment) (p : ℕ) (e : Pair) (z : Segment) → p < length Z → IsPairAt K p e → AreEndsOf S e z.from z.to
    → IsNear z.from → IsNear z.to → z.from.x ≤ℤ z.to.x → z.place ≡ p
    → ((k : ℕ) → k < p → IsSegment S K (segment Z k) × ((segment Z k).place ≡ k))
    → (k : ℕ) → k < p + 1 → IsSegment S K (segment (set Z p z) k) × ((segment (set Z p z) k).place ≡ k)
segments_more S K Z p e z hp stands ends near_from near_to forward at before =
    let P : ℕ → Type 0 = λ k. IsPairAt K k e in
    set_more (λ k w. IsSegment S K w × (w.place ≡ k)) Z p z _ hp ((e, subst P (sym at) stands, ends, near_from, near_to, forward), at) before

pub near_segments : (S : List Point) (K : List Pair) (Z : List Segment) → AreSegments S K Z → AreNearSegments Z
near_segments S K Z h k l = ((h.each k _ l).3, (h.each k _ l).4)

-- the boxes of one more block
pub bounded_more : (size : ℕ) (Z : List Segment) (B : List Block) (n : ℕ) (b : Block) → n < length B → HasNearBoxes b
    → ((k : ℕ) → IsInBlock size n k → k < length Z → HasSegment b (segment Z k)) → AreBoundedBelow size Z B n → AreBoundedBelow size Z (set B n b) (n + 1)
bounded_more size Z B n b hn near has h = record {
  near = λ i l. set_all HasNearBoxes B n b _ hn near h.near i (let e = length-set B n b in omega arith);
  bounded = set_more (λ i w. (k : ℕ) → IsInBlock size i k → k < length Z → HasSegment w (segment Z k)) B n b _ hn has h.bounded;
}

-- a block that begins after the last segment
pub bounded_past : (size : ℕ) (Z : List Segment) (B : List Block) (n : ℕ) → length Z ≤ size * n → AreBoundedBelow size Z B n → AreBoundedBelow size Z B (n + 1)
bounded_past size Z B n past h = record {
  near = h.near;
  bounded = below_more (IsBounded size Z B) n h.bounded (λ k at l. absurd (let a = at.0 in omega arith));
}
