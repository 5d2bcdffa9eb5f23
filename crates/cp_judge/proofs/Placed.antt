-- The points as they are put in order, and blocks of them as they get their boxes.
use Rattle.std.proofs.Common.{◌≡◌, ℕ, ◌+◌, ◌*◌, ◌<◌, ◌≤◌, List, length, set, replicate, below_more, subst, sym, ◌∙◌, arith}
use Rattle.std.specs.List.{Contains}
use Rattle.std.specs.List.Sorted.{IsPermutation}
use Rattle.std.proofs.lemmas.List.{get_or_default, get_or-replicate, length-set}
use Rattle.std.proofs.lemmas.List.Elements.{All-from_get_or, Contains-get_or}
use Rattle.std.proofs.lemmas.List.Sorted.{All-permutation, Contains-permutation}
use Rattle.plane.specs.declared.coordinates.Point.{Point}
use Rattle.plane.specs.Geometry.{point, LiesBetween}
use Rattle.plane.specs.Accepted.{IsNear, AreNear}
use Rattle.boxes.specs.declared.bounds.Bounds.{Bounds}
use Rattle.boxes.specs.Bounds.{IsWithin, HasNearCorners}
use Rattle.crossings.proofs.laws.Blocks.{set_more, set_all}
use Rattle.crossings.specs.Segments.{IsInBlock}
use Rattle.cp_judge.specs.Blocks.{bounds_at, IsBounded, AreBoundedBelow, AreBlocks, NoneBetween}

-- the points of a list in another order
near_moved : (X Y : List Point) → IsPermutation X Y → AreNear X → AreNear Y
near_moved X Y perm h k l = All-permutation IsNear X Y perm (All-from_get_or IsNear X _ (λ i m. h i m)) k _ l

copied_near : (S X : List Point) → length X ≡ length S → ((k : ℕ) → k < length S → point X k ≡ point S k) → AreNear S → AreNear X
copied_near S X count same h k l = subst IsNear (sym (same k (omega arith))) (h k (omega arith))

copied_whole : (S X Y : List Point) → length X ≡ length S → ((k : ℕ) → k < length S → point X k ≡ point S k) → IsPermutation X Y
    → (k : ℕ) → k < length S → Contains Y (point S k)
copied_whole S X Y count same perm k l =
    let hx : k < length X = omega arith in
    let C : Point → Type 0 = λ p. Contains Y p in
    subst C (same k l) (Contains-permutation X Y (point X k) perm (Contains-get_or X k _ hx))

pub near_placed : (S X Y : List Point) → length X ≡ length S → ((k : ℕ) → k < length S → point X k ≡ point S k) → IsPermutation X Y → AreNear S → AreNear Y
near_placed S X Y count same perm h = near_moved X Y perm (copied_near S X count same h)

pub blocks_placed : (S X Y : List Point) (B T : List Bounds) → length X ≡ length S → ((k : ℕ) → k < length S → point X k ≡ point S k) → IsPermutation X Y → AreNear S
    → length Y ≤ 32 * length B → length Y ≤ 288 * length T → length B < 4294967296 → length T < 4294967296 → AreBoundedBelow 32 Y B (length B) → AreBoundedBelow 288 Y T (length T) → AreBlocks S Y B T
blocks_placed S X Y B T count same perm near room strip_room few few_strips bounded strips = record {
  whole = copied_whole S X Y count same perm;
  near = near_placed S X Y count same perm near;
  room = room;
  strip_room = strip_room;
  few = few;
  few_strips = few_strips;
  bounded = bounded;
  strips = strips;
}

-- where no point of the strips is between a and b, no point of S is
pub none_of_strips : (S P : List Point) (B T : List Bounds) (a b : Point) → AreBlocks S P B T → NoneBetween (λ k. k < 288 * length T) P a b → (k : ℕ) → k < length S → ¬ LiesBetween (point S k) a b
none_of_strips S P B T a b blocks none k l on =
    let (i, hi, at) = blocks.whole k l in
    let Q : Point → Type 0 = λ q. LiesBetween q a b in
    none i (let room = blocks.strip_room in omega arith) hi (subst Q (sym (get_or_default P i _ (point S k) hi ∙ at)) on)

-- the box of one more block
pub bounded_more : (size : ℕ) (P : List Point) (B : List Bounds) (n : ℕ) (b : Bounds) → n < length B → HasNearCorners b
    → ((k : ℕ) → IsInBlock size n k → k < length P → IsWithin b (point P k)) → AreBoundedBelow size P B n → AreBoundedBelow size P (set B n b) (n + 1)
bounded_more size P B n b hn near has h = record {
  corners = λ i l. set_all HasNearCorners B n b _ hn near h.corners i (let e = length-set B n b in omega arith);
  bounded = set_more (λ i w. (k : ℕ) → IsInBlock size i k → k < length P → IsWithin w (point P k)) B n b _ hn has h.bounded;
}

-- a block that begins after the last point
pub bounded_past : (size : ℕ) (P : List Point) (B : List Bounds) (n : ℕ) → length P ≤ size * n → AreBoundedBelow size P B n → AreBoundedBelow size P B (n + 1)
bounded_past size P B n past h = record {
  corners = h.corners;
  bounded = below_more (IsBounded size P B) n h.bounded (λ k at l. absurd (let a = at.0 in omega arith));
}

pub corners_replicate : (n : ℕ) (b : Bounds) → HasNearCorners b → (i : ℕ) → i < n → HasNearCorners (bounds_at (replicate n b) i)
corners_replicate n b h i l = subst HasNearCorners (sym (get_or-replicate n i b _ l)) h
