-- One row that is raised by its least room.
use Rattle.std.proofs.Common.{◌≡◌, ℕ, ◌+◌, ◌*◌, ◌<◌, ◌≤◌, ◌++◌, ◌∷◌, List, Some, None, length, get_or, set, take, drop, cond, sym, ◌∙◌, ap, ap₂, refl, subst, arith, inl, inr, get_or-set_same}
use Rattle.std.specs.Prelude.{pos, ◌+ℤ◌, ◌≤ℤ◌}
use Rattle.std.specs.List.{sum_by}
use Rattle.std.proofs.lemmas.Int.{ints}
use Rattle.std.proofs.lemmas.List.{get_or_default}
use Rattle.std.proofs.lemmas.List.Elements.{All-contains}
use Rattle.std.proofs.lemmas.Option.{same_Some}
use Rattle.plane.specs.declared.coordinates.Point.{Point}
use Rattle.plane.specs.Accepted.{AreAccepted}
use Rattle.cost_defs.specs.Costs.{Costed, cost}
use Rattle.price_defs.specs.declared.row.Row.{Row}
use Rattle.price_defs.specs.declared.row.Row.TheVariants.{Half, Three, Cross, Cap}
use Rattle.price_defs.specs.Rows.{IsRight, row_at, stand, weight, counts}
use Rattle.price_defs.specs.Loads.{load, IsValid, lost}
use Rattle.price_defs.specs.Tight.{IsFull, IsTight}
use Rattle.price_defs.specs.Raising.{reweigh, IsRoom}
use Rattle.price_defs.proofs.laws.Reweighed.{counts_reweigh}
use Rattle.price_defs.proofs.laws.Tests.{counts_decides}
use Rattle.raise_laws.proofs.laws.Raises.{load_more}
use Rattle.raise_laws.proofs.laws.Floored.{cost_turned}
use Rattle.dual_prices.specs.declared.rooms.Room.{Room}
use Rattle.dual_prices.specs.Raised.{IsRaisedAt, IsFullWith, IsFullEnd}
use Rattle.dual_prices.specs.Rooms.{AreCheap, IsLeastRoom}
use Rattle.dual_prices.proofs.laws.Rooms.{load_turned, not_some}
use Rattle.dual_prices.proofs.laws.InPlace.{split, replaced, at_stand, stand_in, room_of, raised_small, some_candidate, raised_by, candidate_of, end_of, point_of_stand}

-- the row at k stands at p
pub record IsStanding (S : List Point) (rows : List Row) (k p : ℕ) (row : Row) : Type 0 where
  pub place : k < length rows
  pub is : row ≡ get_or rows k row
  pub stands : stand row ≡ Some p

pub right_there : (S : List Point) (D : List Costed) (q : ℕ) (rows : List Row) (k p : ℕ) (row : Row) → IsStanding S rows k p row → IsValid S D q rows → IsRight S row
right_there S D q rows k p row at valid = All-contains (IsRight S) rows row valid.right (k, at.place, sym at.is)

pub room_there : (S : List Point) (D : List Costed) (q : ℕ) (rows : List Row) (k p : ℕ) (row : Row) (room : Room) → IsStanding S rows k p row → IsValid S D q rows
    → IsLeastRoom S D q rows row p (length S) (Some room) → IsRoom S D q rows row room.more
room_there S D q rows k p row room at valid least =
    room_of S D q rows row p room (stand_in S row p (right_there S D q rows k p row at valid) at.stands) (at_stand row p at.stands) least

pub small_there : (S : List Point) (D : List Costed) (q : ℕ) (rows : List Row) (k p : ℕ) (row : Row) (room : Room) → IsStanding S rows k p row → IsValid S D q rows → sum_by lost rows ≤ 100000000000 → q ≤ 1000000 → AreCheap D
    → IsLeastRoom S D q rows row p (length S) (Some room) → weight row + room.more ≤ 101000000000
small_there S D q rows k p row room at valid takers small cheap least =
    raised_small S D q rows row room.more (k, at.place, sym at.is) takers small cheap (room_there S D q rows k p row room at valid least)

-- a row at a point has some room
pub none_there : (S : List Point) (D : List Costed) (q : ℕ) (rows : List Row) (k p : ℕ) (row : Row) → AreAccepted S → IsStanding S rows k p row → IsValid S D q rows
    → IsLeastRoom S D q rows row p (length S) None → ⊥
none_there S D q rows k p row ok at valid none =
    let s = some_candidate S p row ok (right_there S D q rows k p row at valid) (at_stand row p at.stands) in none s.0 s.1 s.2

pub raised_there : (S : List Point) (D : List Costed) (q : ℕ) (rows new : List Row) (k p : ℕ) (row : Row) (room : Room) (w : ℕ) → IsStanding S rows k p row → IsValid S D q rows
    → IsLeastRoom S D q rows row p (length S) (Some room) → w ≡ weight row → new ≡ set rows k (reweigh (row_at rows k) (w + room.more)) → IsRaisedAt S D q rows k new
raised_there S D q rows new k p row room w at valid least is so =
    let here : row_at rows k ≡ row = sym (at.is ∙ get_or_default rows k row (Three 0 0) at.place) in
    record {
      within = at.place;
      row = row;
      after = reweigh row (weight row + room.more);
      is = at.is;
      raised = raised_by S D q rows row p room.more at.stands (room_there S D q rows k p row room at valid least);
      changed = so ∙ ap₂ (λ (r : Row) (v : ℕ). set rows k (reweigh r v)) here (ap (λ (n : ℕ). n + room.more) is);
    }

-- the list with the raised row
pub raised_set : (S : List Point) (rows new : List Row) (k p : ℕ) (row : Row) (w more : ℕ) → IsStanding S rows k p row → w ≡ weight row → new ≡ set rows k (reweigh (row_at rows k) (w + more)) → new ≡ set rows k (reweigh row (weight row + more))
raised_set S rows new k p row w more at is so =
    let here : row_at rows k ≡ row = sym (at.is ∙ get_or_default rows k row (Three 0 0) at.place) in
    so ∙ ap₂ (λ (r : Row) (v : ℕ). set rows k (reweigh r v)) here (ap (λ (n : ℕ). n + more) is)

stand_same : (row : Row) (v : ℕ) → stand (reweigh row v) ≡ stand row
stand_same (Half p r w) v = refl
stand_same (Three p w) v = refl
stand_same (Cross e f w) v = refl
stand_same (Cap e w) v = refl

-- the end of the least room is full after the row is raised by it
pub full_after : (S : List Point) (D : List Costed) (q k p : ℕ) (rows new : List Row) (row : Row) (room : Room) → k < length rows → row ≡ get_or rows k row → stand row ≡ Some p
    → IsLeastRoom S D q rows row p (length S) (Some room) → new ≡ set rows k (reweigh row (weight row + room.more)) → IsFullEnd S D q new k room.end
full_after S D q k p rows new row room l is stands least so =
    let full_row : Row = reweigh row (weight row + room.more) in
    let here : row_at new k ≡ full_row = ap (λ x. row_at x k) so ∙ get_or-set_same rows k full_row (Three 0 0) l in
    let before : take k rows ++ row ∷ drop (k + 1) rows ≡ rows = (split rows k row is l).1 in
    let after : new ≡ take k rows ++ full_row ∷ drop (k + 1) rows = so ∙ replaced rows k full_row l in
    let more : load S (take k rows ++ full_row ∷ drop (k + 1) rows) p room.end ≡ (load S (take k rows ++ row ∷ drop (k + 1) rows) p room.end +ℤ pos (cond (counts S row p room.end) room.more 0)) =
    load_more S (take k rows) (drop (k + 1) rows) row room.more p room.end (point_of_stand row p stands) in
    let test : cond (counts S row p room.end) room.more 0 ≡ room.more = ap (λ t. cond t room.more 0) ((counts_decides S row p room.end).1 least.1.2) in
    let loads : load S new p room.end ≡ pos (q * cost D p room.end) =
    omega (arith, ints, ap (λ x. load S x p room.end) after, ap (λ x. load S x p room.end) before, more, test, least.2) in
    λ u s. (
    let e : p ≡ u = same_Some p u (sym stands ∙ sym (stand_same row (weight row + room.more)) ∙ ap stand (sym here) ∙ s) in
    subst (λ x. IsFullWith S D q new (row_at new k) x room.end) e
    (subst (λ x. IsFullWith S D q new x p room.end) (sym here)
    (record { within = least.0; counted = (least.1.0, least.1.1, (counts_decides S full_row p room.end).0 (counts_reweigh S row (weight row + room.more) p room.end ∙ (counts_decides S row p room.end).1 least.1.2)); full = loads })))

-- the end of the least room of a row of a tight certificate
pub full_end_of : (S : List Point) (D : List Costed) (q k p : ℕ) (rows : List Row) (row : Row) (room : Room) → k < length rows → row ≡ get_or rows k row → stand row ≡ Some p → IsTight S D q rows
    → IsLeastRoom S D q rows row p (length S) (Some room) → IsFullEnd S D q rows k room.end
full_end_of S D q k p rows row room l is stands tight least =
    let here : row_at rows k ≡ row = sym (is ∙ get_or_default rows k row (Three 0 0) l) in
    let f : IsFull S D q rows row = tight.full row (k, l, sym is) (point_of_stand row p stands) in
    let nothing : room.more ≡ 0 = elim (candidate_of S p row f.i f.j f.ordered f.within f.clear f.counted (end_of S p row f.i f.j (at_stand row p stands) f.counted)) [
      | inl h ↦ (let b : (load S rows p f.j +ℤ pos room.more) ≤ℤ pos (q * cost D p f.j) = least.3 f.j h.0 h.2 in
          let a : load S rows p f.j ≡ pos (q * cost D p f.j) = subst (λ x. load S rows x f.j ≡ pos (q * cost D x f.j)) h.1 f.full in omega (arith, ints))
      | inr h ↦ (let b : (load S rows p f.i +ℤ pos room.more) ≤ℤ pos (q * cost D p f.i) = least.3 f.i h.0 h.2 in
          let a : load S rows f.i p ≡ pos (q * cost D f.i p) = subst (λ x. load S rows f.i x ≡ pos (q * cost D f.i x)) h.1 f.full in
          omega (arith, ints, load_turned S rows f.i p, ap (λ n. q * n) (cost_turned D f.i p)))
    ] in
    λ u s. (
    let e : p ≡ u = same_Some p u (sym stands ∙ ap stand (sym here) ∙ s) in
    subst (λ x. IsFullWith S D q rows (row_at rows k) x room.end) e
    (subst (λ x. IsFullWith S D q rows x p room.end) (sym here)
    (record { within = least.0; counted = least.1; full = omega (arith, ints, least.2, nothing) })))

pub no_stand : (S : List Point) (D : List Costed) (q k s : ℕ) (rows : List Row) → stand (row_at rows k) ≡ None → IsFullEnd S D q rows k s
no_stand S D q k s rows none = λ u h. absurd (not_some u (sym h ∙ none))
