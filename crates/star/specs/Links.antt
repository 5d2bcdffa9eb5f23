-- For private clauses.
-- What a star keeps beside its neighbours and marks, so that it answers at once whether a kept neighbour may go; and
-- where a direction stands among the neighbours.
use Rattle.std.specs.Prelude.{◌≡◌, ◌≢◌, ℕ, ◌<◌, ◌≤◌, Bool, false, List, length, slice_index_or, slice_set, IsTrue, ◌↔◌, ◌⊎◌, Option, Some, None}
use Rattle.plane.specs.declared.coordinates.Point.{Point}
use Rattle.plane.specs.Accepted.{AreAccepted}
use Rattle.plane.specs.Geometry.{IsInNeed}
use Rattle.star.specs.Turn.{IsBeforeInTurn}
use Rattle.star.specs.Stars.{Seen, entry, IsOrderly, IsFirstKept}
use Rattle.star.specs.declared.links.Link.{Link}
use Rattle.star.specs.Gaps.{IsKept, IsKeptAfter, IsKeptBefore, IsWide, MissesSome}

-- the link at a position
abbrev pub link : List Link → ℕ → Link
link links k = slice_index_or links k (record { before = 0; after = 0; opens = false })

-- the link of the kept position k names the kept neighbours before and after it, and says whether the gap between these
-- is wide
pub record IsRightLink (S : List Point) (c : ℕ) (list : List (ℕ × Bool)) (k : ℕ) (l : Link) : Type 0 where
  pub first : ℕ
  pub second : ℕ
  pub before : IsKeptBefore list k first
  pub after : IsKeptAfter list k second
  pub before_name : (entry list first).0 ≡ l.before
  pub after_name : (entry list second).0 ≡ l.after
  pub opens : IsTrue l.opens ↔ IsWide S c l.before l.after

-- the neighbours are in order, the links of the kept ones are right, and the flag says whether some need is missed
pub record HasRightLinks (S : List Point) (c : ℕ) (list : List (ℕ × Bool)) (links : List Link) (misses : Bool) : Type 0 where
  pub accepted : AreAccepted S
  pub order : IsOrderly S c list
  pub len : length links ≡ length list
  pub right : (k : ℕ) → IsKept list k → IsRightLink S c list k (link links k)
  pub wide : IsTrue misses ↔ MissesSome S c list

-- without the kept position k some need isn't met
abbrev pub MissesWithoutPlace : List Point → ℕ → List (ℕ × Bool) → ℕ → Type 0
MissesWithoutPlace S c list k =
    (u : ℕ) × (u < length S) × (u ≢ c) × ((m : ℕ) → IsKept list m → m ≢ k → ¬ IsInNeed S c u (entry list m).0)

-- the link at k has become this one, whose answer is that of its gap
pub record IsSetLink (S : List Point) (c : ℕ) (old new : List Link) (k before after : ℕ) : Type 0 where
  pub answer : Bool
  pub links : new ≡ slice_set old k (record { before = before; after = after; opens = answer })
  pub opens : IsTrue answer ↔ IsWide S c before after

-- the link at k has these ends and the answer of its gap
pub record HasLink (S : List Point) (c : ℕ) (links : List Link) (k before after : ℕ) : Type 0 where
  pub is_before : (link links k).before ≡ before
  pub is_after : (link links k).after ≡ after
  pub opens : IsTrue (link links k).opens ↔ IsWide S c before after

-- what stood between a and b has been taken out: the links at a and b, which stand for p and q, show each other; the
-- other links are as before
pub record IsTakenOut (S : List Point) (c : ℕ) (old new : List Link) (a b p q : ℕ) : Type 0 where
  pub len : length new ≡ length old
  pub others : (m : ℕ) → m ≢ a → m ≢ b → link new m ≡ link old m
  pub alone : a ≡ b → HasLink S c new a p p
  pub first : a ≢ b → HasLink S c new a (link old a).before q
  pub second : a ≢ b → HasLink S c new b p (link old b).after

-- k, which stands for r, has been put in between a and b, which stand for p and q; the other links are as before
pub record IsPutIn (S : List Point) (c : ℕ) (old new : List Link) (k a b r p q : ℕ) : Type 0 where
  pub len : length new ≡ length old
  pub others : (m : ℕ) → m ≢ a → m ≢ b → m ≢ k → link new m ≡ link old m
  pub own : HasLink S c new k p q
  pub alone : a ≡ b → HasLink S c new a r r
  pub first : a ≢ b → HasLink S c new a (link old a).before r
  pub second : a ≢ b → HasLink S c new b r (link old b).after

-- whether some need is missed with r between p and q, by what was so without r
abbrev pub IsMended : List Point → ℕ → Bool → (r p q : ℕ) → Bool → Type 0
IsMended S c misses r p q new =
    (IsWide S c p q × (IsTrue new ↔ (IsWide S c p r ⊎ IsWide S c r q)))
    ⊎ ((¬ IsWide S c p q) × (new ≡ misses))

-- the first kept position of a range, or none
abbrev pub IsFirstIn : List (ℕ × Bool) → (from to : ℕ) → Option ℕ → Type 0
IsFirstIn list from to (Some j) =
    (from ≤ j) × (j < to) × IsKept list j × ((m : ℕ) → from ≤ m → m < j → ¬ IsKept list m)
IsFirstIn list from to None = (m : ℕ) → from ≤ m → m < to → ¬ IsKept list m

-- the first kept position after k, or none where no other is kept
abbrev pub IsAfterOrNone : List (ℕ × Bool) → ℕ → Option ℕ → Type 0
IsAfterOrNone list k (Some j) = (j ≢ k) × IsKeptAfter list k j
IsAfterOrNone list k None = (m : ℕ) → IsKept list m → m ≡ k

-- the first kept neighbour after that at k, or none where none is kept
abbrev pub IsFirstKeptOrNone : Seen → ℕ → Option ℕ → Type 0
IsFirstKeptOrNone s k None = (j : ℕ) → j < length s.list → (entry s.list j).1 ≡ false
IsFirstKeptOrNone s k (Some r) = IsFirstKept s k r

-- the neighbours below k come before q, and those from k on don't
pub record IsSeat (S : List Point) (c : ℕ) (list : List (ℕ × Bool)) (q k : ℕ) : Type 0 where
  pub within : k ≤ length list
  pub passed : (j : ℕ) → j < k → IsBeforeInTurn S c (entry list j).0 q
  pub ahead : (j : ℕ) → k ≤ j → j < length list → ¬ IsBeforeInTurn S c (entry list j).0 q

-- the position of q, or none where it isn't there
abbrev pub IsFound : List (ℕ × Bool) → ℕ → Option ℕ → Type 0
IsFound list q (Some k) = (k < length list) × ((entry list k).0 ≡ q)
IsFound list q None = (k : ℕ) → k < length list → (entry list k).0 ≢ q
