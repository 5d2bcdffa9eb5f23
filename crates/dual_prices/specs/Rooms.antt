-- For private clauses.
-- The least room of a row, over the other ends.
use Rattle.std.specs.Prelude.{◌≡◌, ◌≢◌, ℕ, ◌*◌, ◌<◌, ◌≤◌, List, length, take, drop, set, slice_index_or, Option, Some, None, Bool, true, false, IsTrue, ◌↔◌, pos, ◌+ℤ◌, ◌≤ℤ◌}
use Rattle.std.specs.List.{All, sum_by}
use Rattle.plane.specs.declared.coordinates.Point.{Point}
use Rattle.price_defs.specs.declared.row.Row.{Row}
use Rattle.price_defs.specs.declared.row.Row.TheVariants.{Half, Three, Cross, Cap}
use Rattle.cost_defs.specs.Costs.{Costed, cost}
use Rattle.price_defs.specs.Rows.{Counts}
use Rattle.dual_prices.specs.declared.rooms.Room.{Room}
use Rattle.dual_prices.specs.Raised.{IsCandidate}
use Rattle.price_defs.specs.Loads.{load, IsValid, lost}
use Rattle.price_defs.specs.Raising.{AreRaised, AreRaisedFrom}
use Rattle.price_defs.specs.Limits.{AreLight}

-- no cost is above 1,000
abbrev pub AreCheap : List Costed → Type 0
AreCheap = All (λ x. x.1 ≤ 1000)

-- the row is a Half or Three row at p
abbrev pub IsRowAt : ℕ → Row → Type 0
IsRowAt p (Half u q w) = u ≡ p
IsRowAt p (Three u w) = u ≡ p
IsRowAt p (Cross e f w) = ⊥
IsRowAt p (Cap e w) = ⊥

-- m is what p-r may still get
abbrev pub IsRoomWith : List Point → List Costed → ℕ → List Row → (p r m : ℕ) → Type 0
IsRoomWith S D q rows p r m = (load S rows p r +ℤ pos m) ≡ pos (q * cost D p r)

-- what p-r may still get, or none where it isn't a clear pair that the row counts
abbrev pub IsRoomFor : List Point → List Costed → ℕ → List Row → Row → (p r : ℕ) → Option ℕ → Type 0
IsRoomFor S D q rows row p r None = ¬ IsCandidate S row p r
IsRoomFor S D q rows row p r (Some m) = (r ≢ p) × Counts S row p r × IsRoomWith S D q rows p r m

-- what raising keeps in place: k rows are done
pub record IsRaising (S : List Point) (D : List Costed) (q : ℕ) (old now : List Row) (k : ℕ) : Type 0 where
  pub leads : (out : List Row) → AreRaisedFrom S D q (take k now) (drop k now) out → AreRaised S D q old out
  pub valid : IsValid S D q now
  pub light : AreLight now
  pub takers : sum_by lost now ≤ 100000000000

-- whether x is below the least so far, or the first number
abbrev pub IsBelow : ℕ → Option ℕ → Bool → Type 0
IsBelow x None b = b ≡ true
IsBelow x (Some m) b = IsTrue b ↔ (x < m)

-- the least room with the points below k, and an end that has it, or none where there is no candidate
abbrev pub IsLeastRoom : List Point → List Costed → ℕ → List Row → Row → (p k : ℕ) → Option Room → Type 0
IsLeastRoom S D q rows row p k None = (s : ℕ) → s < k → ¬ IsCandidate S row p s
IsLeastRoom S D q rows row p k (Some room) =
    (room.end < length S) × IsCandidate S row p room.end × IsRoomWith S D q rows p room.end room.more
    × ((s : ℕ) → s < k → IsCandidate S row p s → (load S rows p s +ℤ pos room.more) ≤ℤ pos (q * cost D p s))

-- whether there is less room than the least so far, or it is the first
abbrev pub IsBelowRoom : ℕ → Option Room → Bool → Type 0
IsBelowRoom more None b = b ≡ true
IsBelowRoom more (Some room) b = IsTrue b ↔ (more < room.more)

-- whether the least room so far is 0
abbrev pub IsZeroRoom : Option Room → Bool → Type 0
IsZeroRoom None b = b ≡ false
IsZeroRoom (Some room) b = IsTrue b ↔ (room.more ≡ 0)
