-- Rows that are full with the ends that are noted for them, through each step of a trial.
use Rattle.std.proofs.Common.{◌≡◌, ◌≢◌, ℕ, ◌+◌, ◌*◌, ◌<◌, ◌≤◌, ◌⊎◌, inl, inr, List, [], ◌∷◌, ◌++◌, length, get_or, take, drop, set, map, Bool, true, false, cond, Option, Some, None, sym, ◌∙◌, ap, refl, subst, arith, get_or-set_other, get_or-set_same, length-append}
use Rattle.std.specs.Prelude.{nat_eq, pos, ◌≤ℤ◌, ◌+ℤ◌}
use Rattle.std.proofs.lemmas.Grind.{common_steps}
use Rattle.std.proofs.lemmas.Int.{ints}
use Rattle.std.proofs.lemmas.List.Sums.{sum_by-append, sum_by-cons}
use Rattle.std.proofs.lemmas.Option.{same_Some}
use Rattle.std.proofs.lemmas.Bool.{cases_lt, cases_eq, eqb-true}
use Rattle.std.proofs.lemmas.List.{length-map, length-set, get_or-map, set-get_or, get_or_default}
use Rattle.plane.specs.declared.coordinates.Point.{Point}
use Rattle.cost_defs.specs.Costs.{Costed, cost}
use Rattle.price_defs.specs.declared.row.Row.{Row}
use Rattle.price_defs.specs.declared.row.Row.TheVariants.{Half, Three, Cross, Cap}
use Rattle.price_defs.specs.Rows.{IsRight, is_at, row_at, stand, weight, counts, lessens}
use Rattle.price_defs.specs.Loads.{gives, takes, given, lessened, load, IsValid}
use Rattle.price_defs.specs.Tight.{IsFull, IsTight, IsAtPoint}
use Rattle.price_defs.specs.Raising.{reweigh, IsRaisedRow, IsRoom}
use Rattle.plane.proofs.laws.Border.{clear_back}
use Rattle.price_defs.proofs.laws.Counting.{counts_turned}
use Rattle.price_defs.proofs.laws.Reweighed.{counts_reweigh}
use Rattle.price_defs.proofs.laws.Tests.{counts_decides}
use Rattle.raise_laws.proofs.laws.Limits.{full_has_no_room}
use Rattle.raise_laws.proofs.laws.Raises.{load_grows, load_more, step_of, step_valid}
use Rattle.raise_laws.proofs.laws.Floored.{cost_turned}
use Rattle.search_defs.specs.Priced.{lowered, opened}
use Rattle.search_defs.proofs.laws.Elsewhere.{lowered_elsewhere}
use Rattle.dual_prices.specs.Raised.{IsCandidate, IsRaisedAt, IsFullWith, IsFullEnd}
use Rattle.dual_prices.proofs.laws.Rooms.{candidate_allowed, load_turned, not_some}
use Rattle.dual_prices.proofs.laws.InPlace.{split, replaced, raised_length, stand_in, at_stand, raised_by, candidate_of, end_of, point_of_stand}
use Rattle.bound_worker.specs.Ends.{end_at, IsSettledAt, IsNoted, AreSettled, AreEnds}
use Rattle.bound_worker.specs.Places.{IsOpened, IsElsewhere}

-- a full pair at the row's point is a full pair
full_of : (S : List Point) (D : List Costed) (q : ℕ) (rows : List Row) (row : Row) (u s : ℕ) → u < length S → IsFullWith S D q rows row u s → IsFull S D q rows row
full_of S D q rows row u s un f =
    elim (cases_lt u s) [
      | inl h ↦ record { i = u; j = s; ordered = h; within = f.within; clear = f.counted.1; counted = f.counted.2; full = f.full }
      | inr h ↦ (let ne : s ≢ u = f.counted.0 in record {
        i = s;
        j = u;
        ordered = omega (arith, ne);
        within = un;
        clear = clear_back S u s f.counted.1;
        counted = counts_turned S row u s f.counted.2;
        full = omega (arith, ints, f.full, load_turned S rows s u, ap (λ n. q * n) (cost_turned D s u));
      })
    ]

-- a full pair stays full where loads only grow and the certificate is valid
full_grows : (S : List Point) (D : List Costed) (q : ℕ) (rows new : List Row) (row : Row) (u s : ℕ) → u < length S → IsRight S row → IsValid S D q new → load S rows u s ≤ℤ load S new u s → IsFullWith S D q rows row u s
    → IsFullWith S D q new row u s
full_grows S D q rows new row u s un right valid grows f = record {
  within = f.within;
  counted = f.counted;
  full = omega (arith, ints, f.full, grows, candidate_allowed S D q new row u s valid right un f.within f.counted);
}

raised_row : (S : List Point) (D : List Costed) (q k : ℕ) (rows new : List Row) → (at : IsRaisedAt S D q rows k new)
    → IsRaisedRow S D q (take k rows ++ at.row ∷ drop (k + 1) rows) at.row at.after
raised_row S D q k rows new at = subst (λ x. IsRaisedRow S D q x at.row at.after) (sym (split rows k at.row at.is at.within).1) at.raised

-- raising a row lessens no load
raised_loads : (S : List Point) (D : List Costed) (q k : ℕ) (rows new : List Row) (i j : ℕ) → IsRaisedAt S D q rows k new → load S rows i j ≤ℤ load S new i j
raised_loads S D q k rows new i j at =
    let g : load S (take k rows ++ at.row ∷ drop (k + 1) rows) i j ≤ℤ load S (take k rows ++ at.after ∷ drop (k + 1) rows) i j =
    load_grows S D q (take k rows) (drop (k + 1) rows) at.row at.after (step_of S D q (take k rows ++ at.row ∷ drop (k + 1) rows) at.row at.after (raised_row S D q k rows new at)) i j in
    subst (λ x. load S rows i j ≤ℤ load S x i j) (sym (at.changed ∙ replaced rows k at.after at.within))
    (subst (λ x. load S x i j ≤ℤ load S (take k rows ++ at.after ∷ drop (k + 1) rows) i j) (split rows k at.row at.is at.within).1 g)

-- and keeps a certificate valid
pub raised_at_valid : (S : List Point) (D : List Costed) (q k : ℕ) (rows new : List Row) → IsRaisedAt S D q rows k new → IsValid S D q rows → IsValid S D q new
raised_at_valid S D q k rows new at valid =
    subst (IsValid S D q) (sym (at.changed ∙ replaced rows k at.after at.within))
    (step_valid S D q (take k rows) (drop (k + 1) rows) at.row at.after (step_of S D q (take k rows ++ at.row ∷ drop (k + 1) rows) at.row at.after (raised_row S D q k rows new at))
    (subst (IsValid S D q) (sym (split rows k at.row at.is at.within).1) valid))

-- a row elsewhere keeps its full pair
kept_full : (S : List Point) (D : List Costed) (q m j u : ℕ) (rows new : List Row) (old ends : List ℕ) → j ≢ m → j < length new → IsRaisedAt S D q rows m new → IsNoted S D q new m old ends → IsValid S D q new
    → stand (row_at new j) ≡ Some u → (stand (row_at rows j) ≡ Some u → IsFullWith S D q rows (row_at rows j) u (end_at old j)) → IsFullWith S D q new (row_at new j) u (end_at ends j)
kept_full S D q m j u rows new old ends ne l at noted valid stands full =
    let same : row_at new j ≡ row_at rows j = ap (λ x. row_at x j) at.changed ∙ get_or-set_other rows m j at.after (Three 0 0) ne in
    let end : end_at ends j ≡ end_at old j = ap (λ x. end_at x j) noted.changed ∙ get_or-set_other old m j noted.end 0 ne in
    let right : IsRight S (row_at new j) = valid.right j (Three 0 0) l in
    let f : IsFullWith S D q rows (row_at rows j) u (end_at old j) = full (ap stand (sym same) ∙ stands) in
    subst (λ x. IsFullWith S D q new (row_at new j) u x) (sym end)
    (subst (λ x. IsFullWith S D q new x u (end_at old j)) (sym same)
    (full_grows S D q rows new (row_at rows j) u (end_at old j) (stand_in S (row_at new j) u right stands) (subst (IsRight S) same right) valid (raised_loads S D q m rows new u (end_at old j) at) f))

-- one row is raised, and its end is noted
pub settled_step : (S : List Point) (D : List Costed) (q p k l m : ℕ) (rows new : List Row) (old ends : List ℕ) → ((j : ℕ) → j ≢ m → j < l → j < k) → IsRaisedAt S D q rows m new → IsNoted S D q new m old ends
    → IsValid S D q new → AreSettled S D q p k rows old → AreSettled S D q p l new ends
settled_step S D q p k l m rows new old ends before at noted valid so =
    let count : length new ≡ length rows = raised_length S D q rows m new at in record {
      count = ap length noted.changed ∙ length-set old m noted.end ∙ so.count ∙ sym count;
      done = λ j n b. elim (cases_eq j m) [
        | inl e ↦ subst (IsSettledAt S D q new ends) (sym e) noted.settled
        | inr ne ↦ λ u stands. kept_full S D q m j u rows new old ends ne n at noted valid stands (so.done j (omega arith) (before j ne b) u)
      ];
      left = λ j u n stands np ep. elim (cases_eq j m) [
        | inl e ↦ subst (IsSettledAt S D q new ends) (sym e) noted.settled u stands
        | inr ne ↦ kept_full S D q m j u rows new old ends ne n at noted valid stands
            (λ s. so.left j u (omega arith) s np (subst (λ x. x ≢ p) (ap (λ x. end_at x j) noted.changed ∙ get_or-set_other old m j noted.end 0 ne) ep))
      ];
    }

-- all rows are done
pub settled_all : (S : List Point) (D : List Costed) (q p : ℕ) (rows : List Row) (ends : List ℕ) → AreSettled S D q p (length rows) rows ends → AreEnds S D q rows ends
settled_all S D q p rows ends so = record { count = so.count; each = λ j l. so.done j l l }

low_stand : (p : ℕ) (row : Row) → stand (cond (is_at p row) (reweigh row 0) row) ≡ stand row
low_stand p (Half u q w) = elim (nat_eq u p) as (λ t. stand (cond t (Half u q 0) (Half u q w)) ≡ Some u) [ true ↦ refl | false ↦ refl ]
low_stand p (Three u w) = elim (nat_eq u p) as (λ t. stand (cond t (Three u 0) (Three u w)) ≡ Some u) [ true ↦ refl | false ↦ refl ]
low_stand p (Cross e f w) = refl
low_stand p (Cap e w) = refl

low_row : (p u : ℕ) (row : Row) → stand row ≡ Some u → u ≢ p → cond (is_at p row) (reweigh row 0) row ≡ row
low_row p u (Half v q w) s ne = elim (nat_eq v p) as (λ t. nat_eq v p ≡ t → cond t (Half v q 0) (Half v q w) ≡ Half v q w) [
  | true ↦ λ e. absurd (ne (sym (same_Some v u s) ∙ eqb-true v p e))
  | false ↦ λ e. refl
] refl
low_row p u (Three v w) s ne = elim (nat_eq v p) as (λ t. nat_eq v p ≡ t → cond t (Three v 0) (Three v w) ≡ Three v w) [
  | true ↦ λ e. absurd (ne (sym (same_Some v u s) ∙ eqb-true v p e))
  | false ↦ λ e. refl
] refl
low_row p u (Cross e f w) s ne = refl
low_row p u (Cap e w) s ne = refl

-- the rows at p lose their weight
pub lowered_settled : (S : List Point) (D : List Costed) (q p : ℕ) (rows : List Row) (ends : List ℕ) → AreEnds S D q rows ends → AreSettled S D q p 0 (lowered p rows) ends
lowered_settled S D q p rows ends all =
    let count : length (lowered p rows) ≡ length rows = length-map rows (λ row. cond (is_at p row) (reweigh row 0) row) in record {
      count = all.count ∙ sym count;
      done = λ j n b. absurd (omega arith);
      left = λ j u n stands np ep. (
          let is : row_at (lowered p rows) j ≡ cond (is_at p (row_at rows j)) (reweigh (row_at rows j) 0) (row_at rows j) =
          get_or-map (λ row. cond (is_at p row) (reweigh row 0) row) rows j (Three 0 0) (Three 0 0) (omega arith) in
          let s : stand (row_at rows j) ≡ Some u = sym (low_stand p (row_at rows j)) ∙ ap stand (sym is) ∙ stands in
          let f : IsFullWith S D q rows (row_at rows j) u (end_at ends j) = all.each j (omega arith) u s in
          subst (λ x. IsFullWith S D q (lowered p rows) x u (end_at ends j)) (sym (is ∙ low_row p u (row_at rows j) s np))
          (record { within = f.within; counted = f.counted; full = lowered_elsewhere S p u (end_at ends j) rows np ep ∙ f.full }));
    }

before_end : {X : Type 0} (xs : List X) (x d : X) (j : ℕ) → j < length xs → get_or (xs ++ x ∷ []) j d ≡ get_or xs j d
before_end xs x d j l = grind (arith, common_steps)

at_end : {X : Type 0} (xs : List X) (x d : X) → get_or (xs ++ x ∷ []) (length xs) d ≡ x
at_end xs x d = grind (arith, common_steps)

nothing_loaded : (S : List Point) (p r i j : ℕ) (rows : List Row) → load S (rows ++ Half p r 0 ∷ []) i j ≡ load S rows i j
unfolding lessens
nothing_loaded S p r i j rows =
    omega (
      arith,
      ints,
      sum_by-append (given S i j) rows (Half p r 0 ∷ []),
      sum_by-append (lessened i j) rows (Half p r 0 ∷ []),
      sum_by-cons (given S i j) (Half p r 0) [],
      sum_by-cons (lessened i j) (Half p r 0) [],
      none (counts S (Half p r 0) i j),
    )
  where
    none : (t : Bool) → cond t 0 0 ≤ 0
    none true = omega arith
    none false = omega arith

appended_settled : (S : List Point) (D : List Costed) (q p r e : ℕ) (rows : List Row) (ends : List ℕ) → AreSettled S D q p 0 rows ends → AreSettled S D q p 0 (rows ++ Half p r 0 ∷ []) (ends ++ e ∷ [])
appended_settled S D q p r e rows ends so = record {
  count = omega (arith, length-append ends (e ∷ []), length-append rows (Half p r 0 ∷ []), so.count);
  done = λ j n b. absurd (omega arith);
  left = λ j u n stands np ep. elim (cases_lt j (length rows)) [
    | inl l ↦ (
        let is : row_at (rows ++ Half p r 0 ∷ []) j ≡ row_at rows j = before_end rows (Half p r 0) (Three 0 0) j l in
        let end : end_at (ends ++ e ∷ []) j ≡ end_at ends j = before_end ends e 0 j (omega (arith, so.count)) in
        let f : IsFullWith S D q rows (row_at rows j) u (end_at ends j) = so.left j u l (ap stand (sym is) ∙ stands) np (subst (λ x. x ≢ p) end ep) in
        subst (λ x. IsFullWith S D q (rows ++ Half p r 0 ∷ []) (row_at (rows ++ Half p r 0 ∷ []) j) u x) (sym end)
        (subst (λ x. IsFullWith S D q (rows ++ Half p r 0 ∷ []) x u (end_at ends j)) (sym is)
        (record { within = f.within; counted = f.counted; full = nothing_loaded S p r u (end_at ends j) rows ∙ f.full })))
    | inr g ↦ (
        let at : j ≡ length rows = omega (arith, length-append rows (Half p r 0 ∷ [])) in
        let is : row_at (rows ++ Half p r 0 ∷ []) j ≡ Half p r 0 = ap (row_at (rows ++ Half p r 0 ∷ [])) at ∙ at_end rows (Half p r 0) (Three 0 0) in
        absurd (np (same_Some u p (sym stands ∙ ap stand is))))
  ];
}

pub opened_settled : (S : List Point) (D : List Costed) (q p r : ℕ) (rows new : List Row) (old ends : List ℕ) → IsOpened p r rows old new ends → AreSettled S D q p 0 rows old → AreSettled S D q p 0 new ends
opened_settled S D q p r rows new old ends ((inl (a, b)), is) so = subst (λ x. AreSettled S D q p 0 x ends) (sym a) (subst (AreSettled S D q p 0 rows) (sym b) so)
opened_settled S D q p r rows new old ends ((inr (a, b)), is) so = subst (λ x. AreSettled S D q p 0 x ends) (sym a) (subst (AreSettled S D q p 0 (rows ++ Half p r 0 ∷ [])) (sym b) (appended_settled S D q p r 0 rows old so))

-- a row whose full pair a trial at p leaves is raised by nothing
pub nothing_raised : (S : List Point) (D : List Costed) (q k u s : ℕ) (rows : List Row) (row : Row) → k < length rows → row ≡ get_or rows k row → stand row ≡ Some u → IsValid S D q rows → IsFullWith S D q rows row u s
    → IsRaisedAt S D q rows k rows
nothing_raised S D q k u s rows row l is stands valid f =
    let right : IsRight S row = subst (IsRight S) (sym is) (valid.right k row l) in
    let room : IsRoom S D q rows row 0 = full_has_no_room S D q rows row valid right (full_of S D q rows row u s (stand_in S row u right stands) f) in
    record {
      within = l;
      row = row;
      after = reweigh row (weight row + 0);
      is = is;
      raised = raised_by S D q rows row u 0 stands room;
      changed = sym (ap (set rows k) (same row ∙ is) ∙ set-get_or rows k row);
    }
  where
    same : (row : Row) → reweigh row (weight row + 0) ≡ row
    same (Half p r w) = ap (Half p r) (let e : w + 0 ≡ w = omega arith in e)
    same (Three p w) = ap (Three p) (let e : w + 0 ≡ w = omega arith in e)
    same (Cross e f w) = ap (Cross e f) (let e : w + 0 ≡ w = omega arith in e)
    same (Cap e w) = ap (Cap e) (let e : w + 0 ≡ w = omega arith in e)

-- the end with which a row is full is noted
pub noted_end : (S : List Point) (D : List Costed) (q k s : ℕ) (rows : List Row) (old ends : List ℕ) → k < length old → ends ≡ set old k s → IsFullEnd S D q rows k s → IsNoted S D q rows k old ends
noted_end S D q k s rows old ends l is full =
    let here : end_at ends k ≡ s = ap (λ x. end_at x k) is ∙ get_or-set_same old k s 0 l in
    record { end = s; changed = is; settled = subst (IsFullEnd S D q rows k) (sym here) full }

-- nothing is noted for a Cross or Cap row
pub noted_none : (S : List Point) (D : List Costed) (q k : ℕ) (rows : List Row) (ends : List ℕ) → stand (row_at rows k) ≡ None → IsNoted S D q rows k ends ends
noted_none S D q k rows ends none = record {
  end = end_at ends k;
  changed = sym (set-get_or ends k 0);
  settled = λ u s. absurd (not_some u (sym s ∙ none));
}

-- a row that a trial at p leaves
pub elsewhere_settled : (S : List Point) (D : List Costed) (q p k : ℕ) (rows : List Row) (row : Row) (ends slice : List ℕ) → k < length rows → row ≡ get_or rows k row → IsElsewhere p k row slice → slice ≡ ends → IsValid S D q rows
    → AreSettled S D q p k rows ends → IsRaisedAt S D q rows k rows × AreSettled S D q p (k + 1) rows ends
elsewhere_settled S D q p k rows row ends slice l is (u, stands, np, ep) e valid so =
    let here : row_at rows k ≡ row = sym (is ∙ get_or_default rows k row (Three 0 0) l) in
    let f : IsFullWith S D q rows (row_at rows k) u (end_at ends k) = so.left k u l (ap stand here ∙ stands) np (subst (λ x. end_at x k ≢ p) e ep) in
    let g : IsFullWith S D q rows row u (end_at ends k) = subst (λ x. IsFullWith S D q rows x u (end_at ends k)) here f in
    let at : IsRaisedAt S D q rows k rows = nothing_raised S D q k u (end_at ends k) rows row l is stands valid g in (
      at,
      settled_step S D q p k (k + 1) k rows rows ends ends (λ j ne b. omega (arith, ne)) at
          (record { end = end_at ends k; changed = sym (set-get_or ends k 0); settled = λ v s. subst (λ x. IsFullWith S D q rows (row_at rows k) x (end_at ends k)) (same_Some u v (sym stands ∙ ap stand (sym here) ∙ s)) f }) valid so,
    )

-- a row that is raised
pub raised_settled : (S : List Point) (D : List Costed) (q p k : ℕ) (rows new : List Row) (old ends : List ℕ) → IsRaisedAt S D q rows k new → IsNoted S D q new k old ends → IsValid S D q rows → AreSettled S D q p k rows old
    → AreSettled S D q p (k + 1) new ends
raised_settled S D q p k rows new old ends at noted valid so =
    settled_step S D q p k (k + 1) k rows new old ends (λ j ne b. omega (arith, ne)) at noted (raised_at_valid S D q k rows new at valid) so

-- one that is raised before the others
pub lifted_settled : (S : List Point) (D : List Costed) (q p k : ℕ) (rows new : List Row) (old ends : List ℕ) → IsRaisedAt S D q rows k new → IsNoted S D q new k old ends → IsValid S D q rows → AreSettled S D q p 0 rows old
    → AreSettled S D q p 0 new ends
lifted_settled S D q p k rows new old ends at noted valid so =
    settled_step S D q p 0 0 k rows new old ends (λ j ne b. b) at noted (raised_at_valid S D q k rows new at valid) so

-- the first rows are full with the ends that are noted
pub record AreNoted (S : List Point) (D : List Costed) (q k : ℕ) (rows : List Row) (ends : List ℕ) : Type 0 where
  pub count : length ends ≡ k
  pub each : (j : ℕ) → j < k → IsSettledAt S D q rows ends j

pub noted_more : (S : List Point) (D : List Costed) (q k s : ℕ) (rows : List Row) (ends : List ℕ) → IsFullEnd S D q rows k s → AreNoted S D q k rows ends → AreNoted S D q (k + 1) rows (ends ++ s ∷ [])
noted_more S D q k s rows ends full so = record {
  count = omega (arith, length-append ends (s ∷ []), so.count);
  each = λ j l. elim (cases_lt j k) [
    | inl b ↦ subst (IsFullEnd S D q rows j) (sym (before_end ends s 0 j (omega (arith, so.count)))) (so.each j b)
    | inr g ↦ (let e : k ≡ j = omega arith in
        let at : end_at (ends ++ s ∷ []) j ≡ s = ap (end_at (ends ++ s ∷ [])) (let x : j ≡ length ends = omega (arith, so.count) in x) ∙ at_end ends s 0 in
        subst (IsFullEnd S D q rows j) (sym at) (subst (λ x. IsFullEnd S D q rows x s) e full))
  ];
}

pub noted_nothing : (S : List Point) (D : List Costed) (q : ℕ) (rows : List Row) → AreNoted S D q 0 rows []
noted_nothing S D q rows = record { count = refl; each = λ j l. absurd (omega arith) }

pub noted_all : (S : List Point) (D : List Costed) (q k : ℕ) (rows : List Row) (ends : List ℕ) → k ≡ length rows → AreNoted S D q k rows ends → AreEnds S D q rows ends
noted_all S D q k rows ends e so = record { count = so.count ∙ e; each = λ j l. so.each j (omega arith) }

-- the rows of a trial before any is raised
pub ready_settled : (S : List Point) (D : List Costed) (q p r : ℕ) (rows low new kept : List Row) (ends old noted : List ℕ) → AreEnds S D q rows ends → low ≡ lowered p rows → old ≡ ends → IsOpened p r low old new noted → kept ≡ new
    → AreSettled S D q p 0 kept noted
ready_settled S D q p r rows low new kept ends old noted all is_low is_old opened is =
    subst (λ x. AreSettled S D q p 0 x noted) (sym is)
    (opened_settled S D q p r low new old noted opened
    (subst (λ x. AreSettled S D q p 0 x old) (sym is_low) (subst (AreSettled S D q p 0 (lowered p rows)) (sym is_old) (lowered_settled S D q p rows ends all))))
