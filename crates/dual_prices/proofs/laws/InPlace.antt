-- Raising in place.
use Rattle.std.proofs.Common.{◌≡◌, ℕ, suc, ◌+◌, ◌*◌, ◌<◌, ◌≤◌, ◌⊎◌, inl, inr, List, [], ◌∷◌, ◌++◌, length, get_or, take, drop, set, cond, Some, None, sym, ◌∙◌, ap, refl, subst, arith, add-one, append_assoc}
use Rattle.std.specs.Prelude.{pos, ◌+ℤ◌, ◌≤ℤ◌}
use Rattle.std.specs.List.{Contains, sum_by}
use Rattle.std.proofs.lemmas.Int.{ints}
use Rattle.std.proofs.lemmas.Bool.{cases_lt}
use Rattle.std.proofs.lemmas.List.{length-set, take-append-drop, take_more_set, drop-set-lt}
use Rattle.std.proofs.Math.Seq.{drop-cons}
use Rattle.std.proofs.lemmas.List.Sums.{sum_by-set, get_or-le-sum_by, sum_by-le-sum_by}
use Rattle.std.proofs.lemmas.List.Elements.{All-contains, All-set, Contains-get_or}
use Rattle.plane.specs.declared.coordinates.Point.{Point}
use Rattle.plane.specs.Geometry.{IsClear}
use Rattle.plane.specs.Accepted.{AreAccepted}
use Rattle.price_defs.specs.declared.row.Row.{Row}
use Rattle.price_defs.specs.declared.row.Row.TheVariants.{Half, Three, Cross, Cap}
use Rattle.cost_defs.specs.Costs.{Costed, cost}
use Rattle.price_defs.specs.Rows.{IsRight, Counts, weight, stand}
use Rattle.price_defs.specs.Loads.{given, lessened, gives, takes, load, IsValid, lost}
use Rattle.price_defs.specs.Tight.{IsAtPoint}
use Rattle.price_defs.specs.Laws.{CountsSome}
use Rattle.price_defs.specs.Raising.{reweigh, IsRoom, IsRaisedRow, AreRaisedFrom, AreRaised}
use Rattle.price_defs.proofs.laws.Tests.{counts_decides}
use Rattle.plane.proofs.laws.Border.{clear_back}
use Rattle.price_defs.proofs.laws.Counting.{counts_some, counts_turned}
use Rattle.raise_laws.proofs.laws.Limits.{lessened_lost, IsWithin, weight_within}
use Rattle.raise_laws.proofs.laws.Raises.{step_of, step_valid}
use Rattle.raise_laws.proofs.laws.Floored.{cost_turned}
use Rattle.price_defs.specs.Limits.{AreLight}
use Rattle.dual_prices.specs.declared.rooms.Room.{Room}
use Rattle.dual_prices.specs.Raised.{IsCandidate, IsRaisedAt}
use Rattle.dual_prices.specs.Rooms.{AreCheap, IsRowAt, IsLeastRoom, IsRaising}
use Rattle.dual_prices.proofs.laws.Rooms.{load_turned, allowed_small, not_some}
use Rattle.std.proofs.Math.Seq.{take-length, drop-length}
use Rattle.std.proofs.lemmas.Option.{same_Some}

-- a counted pair has the end p
pub end_of : (S : List Point) (p : ℕ) (row : Row) (i j : ℕ) → IsRowAt p row → Counts S row i j → (i ≡ p) ⊎ (j ≡ p)
end_of S p (Half u q w) i j at_p (inl h) = inl (h.0 ∙ at_p)
end_of S p (Half u q w) i j at_p (inr h) = inr (h.0 ∙ at_p)
end_of S p (Three u w) i j at_p (inl h) = inl (h ∙ at_p)
end_of S p (Three u w) i j at_p (inr h) = inr (h ∙ at_p)
end_of S p (Cross e f w) i j at_p h = absurd h
end_of S p (Cap e w) i j at_p h = absurd h

at_point : (p : ℕ) (row : Row) → IsRowAt p row → IsAtPoint row
at_point p (Half u q w) h = tt
at_point p (Three u w) h = tt
at_point p (Cross e f w) h = absurd h
at_point p (Cap e w) h = absurd h

-- a counted clear pair of two ends is a candidate of p
pub candidate_of : (S : List Point) (p : ℕ) (row : Row) (i j : ℕ) → i < j → j < length S → IsClear S i j → Counts S row i j → (i ≡ p) ⊎ (j ≡ p)
    → ((j < length S) × (i ≡ p) × IsCandidate S row p j) ⊎ ((i < length S) × (j ≡ p) × IsCandidate S row p i)
candidate_of S p row i j l n clear counted (inl e) =
    inl (n, e, ((λ g. absurd (omega arith)), subst (λ x. IsClear S x j) e clear, subst (λ x. Counts S row x j) e counted))
candidate_of S p row i j l n clear counted (inr e) =
    inr (omega arith, e, ((λ g. absurd (omega arith)), subst (λ x. IsClear S x i) e (clear_back S i j clear), subst (λ x. Counts S row x i) e (counts_turned S row i j counted)))

-- a right row at p has a candidate
pub some_candidate : (S : List Point) (p : ℕ) (row : Row) → AreAccepted S → IsRight S row → IsRowAt p row → (s : ℕ) × (s < length S) × IsCandidate S row p s
some_candidate S p row ok right at_p =
    let s : CountsSome S row = counts_some S row ok right (at_point p row at_p) in
    elim (candidate_of S p row s.i s.j s.ordered s.within s.clear s.counted (end_of S p row s.i s.j at_p s.counted)) [
      | inl h ↦ (s.j, h.0, h.2)
      | inr h ↦ (s.i, h.0, h.2)
    ]

-- the least room over the other ends is the room
pub room_of : (S : List Point) (D : List Costed) (q : ℕ) (rows : List Row) (row : Row) (p : ℕ) (room : Room) → p < length S → IsRowAt p row → IsLeastRoom S D q rows row p (length S) (Some room) → IsRoom S D q rows row room.more
room_of S D q rows row p room pn at_p (rn, (ne, clear, counted), is, least) =
    let r = room.end in
    elim (cases_lt p r) [
      | inl h ↦ record { i = p; j = r; ordered = h; within = rn; clear = clear; counted = counted; is = is; least = all }
      | inr h ↦ record {
        i = r;
        j = p;
        ordered = omega arith;
        within = pn;
        clear = clear_back S p r clear;
        counted = counts_turned S row p r counted;
        is = omega (arith, ints, is, load_turned S rows r p, ap (λ n. q * n) (cost_turned D r p));
        least = all;
      }
    ]
  where
    all : (k l : ℕ) → k < l → l < length S → IsClear S k l → Counts S row k l → (load S rows k l +ℤ pos room.more) ≤ℤ pos (q * cost D k l)
    all k l o n c h =
        elim (candidate_of S p row k l o n c h (end_of S p row k l at_p h)) [
          | inl g ↦ subst (λ x. (load S rows x l +ℤ pos room.more) ≤ℤ pos (q * cost D x l)) (sym g.1) (least l g.0 g.2)
          | inr g ↦ (let b : (load S rows l k +ℤ pos room.more) ≤ℤ pos (q * cost D l k) = subst (λ x. (load S rows x k +ℤ pos room.more) ≤ℤ pos (q * cost D x k)) (sym g.1) (least k g.0 g.2) in
              omega (arith, ints, load_turned S rows k l, ap (λ n. q * n) (cost_turned D k l)))
        ]

-- a raised weight is small
pub raised_small : (S : List Point) (D : List Costed) (q : ℕ) (rows : List Row) (row : Row) (m : ℕ) → Contains rows row → sum_by lost rows ≤ 100000000000 → q ≤ 1000000 → AreCheap D
    → IsRoom S D q rows row m → weight row + m ≤ 101000000000
raised_small S D q rows row m c takers small cheap room =
    let g : given S room.i room.j row ≡ weight row = ap (λ t. cond t (weight row) 0) ((counts_decides S row room.i room.j).1 room.counted) in
    let e : given S room.i room.j (get_or rows c.0 row) ≡ given S room.i room.j row = ap (given S room.i room.j) c.2 in
    let a : given S room.i room.j (get_or rows c.0 row) ≤ gives S rows room.i room.j = get_or-le-sum_by (given S room.i room.j) rows c.0 row c.1 in
    let t : takes rows room.i room.j ≤ sum_by lost rows = sum_by-le-sum_by (lessened room.i room.j) lost rows (lessened_lost room.i room.j) in
    omega (arith, ints, room.is, allowed_small D q room.i room.j small cheap, g, e)

raised_light : (S : List Point) (D : List Costed) (q : ℕ) (rows : List Row) (row new : Row) → Contains rows row → AreLight rows → sum_by lost rows ≤ 100000000000 → q ≤ 1000000 → AreCheap D
    → IsRaisedRow S D q rows row new → (weight new ≤ 1000000000000) × (lost new ≡ lost row)
raised_light S D q rows (Half p r w) new c light takers small cheap h =
    (omega (arith, ap weight h.2, raised_small S D q rows (Half p r w) h.0 c takers small cheap h.1), ap lost h.2)
raised_light S D q rows (Three p w) new c light takers small cheap h =
    (omega (arith, ap weight h.2, raised_small S D q rows (Three p w) h.0 c takers small cheap h.1), ap lost h.2)
raised_light S D q rows (Cross e f w) new c light takers small cheap h =
    (let l : w ≤ 1000000000000 = All-contains (λ x. weight x ≤ 1000000000000) rows (Cross e f w) light c in omega (arith, ap weight h), ap lost h)
raised_light S D q rows (Cap e w) new c light takers small cheap h =
    (let l : w ≤ 1000000000000 = All-contains (λ x. weight x ≤ 1000000000000) rows (Cap e w) light c in omega (arith, ap weight h), ap lost h)

-- the list before and behind its row k
pub split : (rows : List Row) (k : ℕ) (row : Row) → row ≡ get_or rows k row → k < length rows → (drop k rows ≡ row ∷ drop (k + 1) rows) × (take k rows ++ row ∷ drop (k + 1) rows ≡ rows)
split rows k row is l =
    let d : drop k rows ≡ row ∷ drop (suc k) rows = drop-cons rows k row l ∙ ap (λ x. x ∷ drop (suc k) rows) (sym is) in
    let e : drop k rows ≡ row ∷ drop (k + 1) rows = d ∙ ap (λ n. row ∷ drop n rows) (sym (add-one k)) in
    (e, ap (λ x. take k rows ++ x) (sym e) ∙ take-append-drop k rows)

pub replaced : (rows : List Row) (k : ℕ) (new : Row) → k < length rows → set rows k new ≡ take k rows ++ new ∷ drop (k + 1) rows
replaced rows k new l =
    sym (take-append-drop (k + 1) (set rows k new))
    ∙ ap (λ x. x ++ drop (k + 1) (set rows k new)) (take_more_set rows k new l)
    ∙ ap (λ x. (take k rows ++ new ∷ []) ++ x) (drop-set-lt (k + 1) rows k new (omega arith))
    ∙ append_assoc (take k rows) (new ∷ []) (drop (k + 1) rows)

-- One row more is raised in place.
pub raising_step : (S : List Point) (D : List Costed) (q : ℕ) (old now : List Row) (k : ℕ) (row new : Row) → k < length now → row ≡ get_or now k row → q ≤ 1000000 → AreCheap D
    → IsRaisedRow S D q now row new → IsRaising S D q old now k → IsRaising S D q old (set now k new) (k + 1)
raising_step S D q old now k row new l is small cheap raised so =
    let c : Contains now row = (k, l, sym is) in
    let s : (drop k now ≡ row ∷ drop (k + 1) now) × (take k now ++ row ∷ drop (k + 1) now ≡ now) = split now k row is l in
    let r : IsRaisedRow S D q (take k now ++ row ∷ drop (k + 1) now) row new = subst (λ x. IsRaisedRow S D q x row new) (sym s.1) raised in
    let v : IsValid S D q (take k now ++ new ∷ drop (k + 1) now) =
    step_valid S D q (take k now) (drop (k + 1) now) row new (step_of S D q (take k now ++ row ∷ drop (k + 1) now) row new r) (subst (IsValid S D q) (sym s.1) so.valid) in
    let w : (weight new ≤ 1000000000000) × (lost new ≡ lost row) = raised_light S D q now row new c so.light so.takers small cheap raised in
    record {
      leads = λ out h. so.leads out (subst (λ x. AreRaisedFrom S D q (take k now) x out) (sym s.0) (
        new,
        r,
        subst (λ x. AreRaisedFrom S D q x (drop (k + 1) now) out) (take_more_set now k new l)
            (subst (λ x. AreRaisedFrom S D q (take (k + 1) (set now k new)) x out) (drop-set-lt (k + 1) now k new (omega arith)) h),
      ));
      valid = subst (IsValid S D q) (sym (replaced now k new l)) v;
      light = All-set (λ x. weight x ≤ 1000000000000) now k new w.0 so.light;
      takers = omega (arith, sum_by-set lost now k new row l, so.takers, w.1, ap lost is);
    }

-- The weights of a valid certificate are small where what its Cross and Cap rows take off is.
weight_small : (S : List Point) (D : List Costed) (q : ℕ) (rows : List Row) (row : Row) → AreAccepted S → IsValid S D q rows → sum_by lost rows ≤ 100000000000 → q ≤ 1000000 → AreCheap D
    → Contains rows row → lost row ≤ sum_by lost rows → weight row ≤ 1000000000000
weight_small S D q rows (Half p r w) ok valid takers small cheap c l =
    let b : IsWithin S D q rows (Half p r w) = weight_within S D q rows (Half p r w) ok valid c tt in omega (arith, b.bound, allowed_small D q b.i b.j small cheap)
weight_small S D q rows (Three p w) ok valid takers small cheap c l =
    let b : IsWithin S D q rows (Three p w) = weight_within S D q rows (Three p w) ok valid c tt in omega (arith, b.bound, allowed_small D q b.i b.j small cheap)
weight_small S D q rows (Cross e f w) ok valid takers small cheap c l = omega arith
weight_small S D q rows (Cap e w) ok valid takers small cheap c l = omega arith

pub valid_light : (S : List Point) (D : List Costed) (q : ℕ) (rows : List Row) → AreAccepted S → IsValid S D q rows → sum_by lost rows ≤ 100000000000 → q ≤ 1000000 → AreCheap D → AreLight rows
valid_light S D q rows ok valid takers small cheap k d l =
    weight_small S D q rows (get_or rows k d) ok valid takers small cheap (Contains-get_or rows k d l) (get_or-le-sum_by lost rows k d l)

-- a row that stands at p
pub at_stand : (row : Row) (p : ℕ) → stand row ≡ Some p → IsRowAt p row
at_stand (Half u q w) p e = same_Some u p e
at_stand (Three u w) p e = same_Some u p e
at_stand (Cross e f w) p h = absurd (not_some p (sym h))
at_stand (Cap e w) p h = absurd (not_some p (sym h))

pub point_of_stand : (row : Row) (p : ℕ) → stand row ≡ Some p → IsAtPoint row
point_of_stand row p e = at_point p row (at_stand row p e)

pub stand_in : (S : List Point) (row : Row) (p : ℕ) → IsRight S row → stand row ≡ Some p → p < length S
stand_in S (Half u q w) p right e = subst (λ n. n < length S) (same_Some u p e) right.0
stand_in S (Three u w) p right e = subst (λ n. n < length S) (same_Some u p e) right.0
stand_in S (Cross e f w) p right h = absurd (not_some p (sym h))
stand_in S (Cap e w) p right h = absurd (not_some p (sym h))

pub raised_by : (S : List Point) (D : List Costed) (q : ℕ) (rows : List Row) (row : Row) (p m : ℕ) → stand row ≡ Some p → IsRoom S D q rows row m → IsRaisedRow S D q rows row (reweigh row (weight row + m))
raised_by S D q rows (Half u r w) p m e room = (m, room, refl)
raised_by S D q rows (Three u w) p m e room = (m, room, refl)
raised_by S D q rows (Cross e f w) p m h room = absurd (not_some p (sym h))
raised_by S D q rows (Cap e w) p m h room = absurd (not_some p (sym h))

pub raised_not : (S : List Point) (D : List Costed) (q : ℕ) (rows : List Row) (row : Row) → stand row ≡ None → IsRaisedRow S D q rows row row
raised_not S D q rows (Half u r w) h = absurd (not_some u h)
raised_not S D q rows (Three u w) h = absurd (not_some u h)
raised_not S D q rows (Cross e f w) h = refl
raised_not S D q rows (Cap e w) h = refl

-- one row more, by what was raised at its position
pub raising_more : (S : List Point) (D : List Costed) (q : ℕ) (old now new : List Row) (k : ℕ) → q ≤ 1000000 → AreCheap D → IsRaisedAt S D q now k new → IsRaising S D q old now k
    → IsRaising S D q old new (k + 1)
raising_more S D q old now new k small cheap at so =
    subst (λ (x : List Row). IsRaising S D q old x (k + 1)) (sym at.changed) (raising_step S D q old now k at.row at.after at.within at.is small cheap at.raised so)

pub raising_ends : (S : List Point) (D : List Costed) (q : ℕ) (old now : List Row) → IsRaising S D q old now (length now) → AreRaised S D q old now
raising_ends S D q old now so =
    so.leads now (subst (λ (x : List Row). AreRaisedFrom S D q (take (length now) now) x now) (sym (drop-length now)) (sym (take-length now)))

pub raised_length : (S : List Point) (D : List Costed) (q : ℕ) (old : List Row) (k : ℕ) (new : List Row) → IsRaisedAt S D q old k new → length new ≡ length old
raised_length S D q old k new at = ap length at.changed ∙ length-set old k at.after
