-- The loop over the other ends, with the end of the least room.
use Rattle.std.proofs.Common.{◌≡◌, ℕ, ◌+◌, ◌*◌, ◌<◌, ◌≤◌, inl, inr, List, length, Bool, true, false, Option, Some, None, sym, ◌∙◌, refl, subst, arith}
use Rattle.std.specs.Prelude.{pos, ◌+ℤ◌, ◌≤ℤ◌}
use Rattle.std.proofs.lemmas.Int.{ints}
use Rattle.std.proofs.lemmas.Bool.{cases_lt, false≢true}
use Rattle.plane.specs.declared.coordinates.Point.{Point}
use Rattle.cost_defs.specs.Costs.{Costed, cost}
use Rattle.price_defs.specs.declared.row.Row.{Row}
use Rattle.price_defs.specs.Rows.{IsRight}
use Rattle.price_defs.specs.Loads.{load, IsValid}
use Rattle.dual_prices.specs.Raised.{IsCandidate}
use Rattle.dual_prices.specs.Rooms.{IsRoomWith, IsLeastRoom, IsBelowRoom, IsZeroRoom}
use Rattle.dual_prices.proofs.laws.Rooms.{candidate_allowed}
use Rattle.dual_prices.specs.declared.rooms.Room.{Room}

pub not_some_room : (room : Room) → Some room ≡ None → ⊥
not_some_room room e = cc

pub not_below : (more : ℕ) (best : Option Room) (b : Bool) → IsBelowRoom more best b → b ≡ false → (room : Room) × (best ≡ Some room) × (room.more ≤ more)
not_below more None b h f = absurd (false≢true (sym f ∙ h))
not_below more (Some room) b h f = (room, refl, elim (cases_lt more room.more) [ inl l ↦ absurd (false≢true (sym f ∙ h.1 l)) | inr g ↦ g ])

-- a room that is less than the least so far is the least
pub room_taken : (S : List Point) (D : List Costed) (q : ℕ) (rows : List Row) (row : Row) (p r m : ℕ) (best : Option Room) (b : Bool) → r < length S → IsCandidate S row p r → IsRoomWith S D q rows p r m
    → IsBelowRoom m best b → b ≡ true → IsLeastRoom S D q rows row p r best → IsLeastRoom S D q rows row p (r + 1) (Some (record { more = m; end = r }))
room_taken S D q rows row p r m None b rn cand room below t least = (
  rn,
  cand,
  room,
  λ s l c. elim (cases_lt s r) [
    | inl h ↦ absurd (least s h c)
    | inr h ↦ (let e : s ≡ r = omega arith in subst (λ x. (load S rows p x +ℤ pos m) ≤ℤ pos (q * cost D p x)) (sym e) (omega (arith, ints, room)))
  ],
)
room_taken S D q rows row p r m (Some old) b rn cand room below t least = (
  rn,
  cand,
  room,
  λ s l c. elim (cases_lt s r) [
    | inl h ↦ (let k : (load S rows p s +ℤ pos old.more) ≤ℤ pos (q * cost D p s) = least.3 s h c in let less : m < old.more = below.0 t in omega (arith, ints))
    | inr h ↦ (let e : s ≡ r = omega arith in subst (λ x. (load S rows p x +ℤ pos m) ≤ℤ pos (q * cost D p x)) (sym e) (omega (arith, ints, room)))
  ],
)

-- the least so far stays where it isn't more than the room
pub room_kept : (S : List Point) (D : List Costed) (q : ℕ) (rows : List Row) (row : Row) (p r m : ℕ) (old : Room) → IsRoomWith S D q rows p r m → old.more ≤ m
    → IsLeastRoom S D q rows row p r (Some old) → IsLeastRoom S D q rows row p (r + 1) (Some old)
room_kept S D q rows row p r m old room le least = (
  least.0,
  least.1,
  least.2,
  λ s l c. elim (cases_lt s r) [
    | inl h ↦ least.3 s h c
    | inr h ↦ (let e : s ≡ r = omega arith in subst (λ x. (load S rows p x +ℤ pos old.more) ≤ℤ pos (q * cost D p x)) (sym e) (omega (arith, ints, room)))
  ],
)

pub room_pass : (S : List Point) (D : List Costed) (q : ℕ) (rows : List Row) (row : Row) (p r : ℕ) (best : Option Room) → ¬ IsCandidate S row p r
    → IsLeastRoom S D q rows row p r best → IsLeastRoom S D q rows row p (r + 1) best
room_pass S D q rows row p r None miss least = λ s l c. elim (cases_lt s r) [
  | inl h ↦ least s h c
  | inr h ↦ (let e : s ≡ r = omega arith in miss (subst (IsCandidate S row p) e c))
]
room_pass S D q rows row p r (Some old) miss least = (
  least.0,
  least.1,
  least.2,
  λ s l c. elim (cases_lt s r) [
    | inl h ↦ least.3 s h c
    | inr h ↦ (let e : s ≡ r = omega arith in absurd (miss (subst (IsCandidate S row p) e c)))
  ],
)

-- the least room where a counted pair has none left
pub no_room : (S : List Point) (D : List Costed) (q : ℕ) (rows : List Row) (row : Row) (p k : ℕ) (best : Option Room) (b : Bool) → IsValid S D q rows → IsRight S row → p < length S → IsZeroRoom best b → b ≡ true
    → IsLeastRoom S D q rows row p k best → IsLeastRoom S D q rows row p (length S) best
no_room S D q rows row p k None b valid right pn zero t least = absurd (false≢true (sym zero ∙ t))
no_room S D q rows row p k (Some old) b valid right pn zero t least =
    (least.0, least.1, least.2, λ s sn cand. (let e : old.more ≡ 0 = zero.0 t in omega (arith, ints, candidate_allowed S D q rows row p s valid right pn sn cand)))
