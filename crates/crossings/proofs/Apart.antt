-- A block that is beside a segment has none that crosses it.
use Rattle.std.proofs.Common.{◌≡◌, ℕ, ◌<◌, ◌≤◌, List, length, subst, sym, ◌∙◌, ap, arith}
use Rattle.std.proofs.lemmas.List.{get_or_default}
use Rattle.plane.specs.declared.coordinates.Point.{Point}
use Rattle.plane.specs.declared.segment.Pair.{Pair}
use Rattle.plane.specs.Geometry.{DoCross}
use Rattle.boxes.proofs.laws.Apart.{none_crosses_out_of_range}
use Rattle.boxes.specs.Bounds.{IsOutOfRange}
use Rattle.crossings.specs.declared.segments.Segment.{Segment}
use Rattle.crossings.specs.declared.blocks.Block.{Block}
use Rattle.crossings.specs.Crossings.{CrossesLater}
use Rattle.crossings.proofs.laws.Ends.{crossing_of_ends}
use Rattle.crossings.specs.Segments.{segment, block, IsSegment, AreSegments, HasSegment, IsInBlock, AreBoundedBelow}
use Rattle.crossings.specs.Trying.{CrossesNone}

-- a block none of whose segments crosses that of z
pub none_beside : (size : ℕ) (S : List Point) (K : List Pair) (Z : List Segment) (B : List Block) (i : ℕ) (z : Segment) → AreSegments S K Z
    → AreBoundedBelow size Z B (length B) → i < length B → IsSegment S K z
    → ((w : Segment) → HasSegment (block B i) w → ¬ DoCross z.from z.to w.from w.to) → CrossesNone (IsInBlock size i) S K Z z.place
none_beside size S K Z B i z segments boxes hi hz none k at l h =
    none (segment Z k) (boxes.bounded i hi k at l) (crossing_of_ends S K z (segment Z k) hz (segments.each k _ l) h.1)

-- where none of the segments crosses it, no pair does
pub none_of_segments : (S : List Point) (K : List Pair) (Z : List Segment) (a n : ℕ) → AreSegments S K Z → length Z ≤ n → CrossesNone (λ k. k < n) S K Z a
    → (b : ℕ) → ¬ CrossesLater S K a b
none_of_segments S K Z a n segments room none b h =
    let (i, z, hi, is, at) = segments.whole b h.1.3.0 in
    let P : ℕ → Type 0 = λ x. CrossesLater S K a x in
    let e : (segment Z i).place ≡ b = ap (λ (w : Segment). w.place) (get_or_default Z i _ z hi ∙ is) ∙ at in
    none i (omega arith) hi (subst P (sym e) h)

-- the tests on the boxes of a block
pub out_of_range : (b : Block) (p q : Point) (z : Segment) → IsOutOfRange b.both p q → HasSegment b z → ¬ DoCross p q z.from z.to
out_of_range b p q z o h = none_crosses_out_of_range b.both p q z.from z.to h.2 h.3 o
