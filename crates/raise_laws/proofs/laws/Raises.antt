-- Raising keeps a certificate valid, makes it tight, and lowers no weight and no value.
use Rattle.std.proofs.Common.{◌≡◌, ℕ, ◌+◌, ◌*◌, ◌<◌, ◌≤◌, ◌⊎◌, inl, inr, List, [], ◌∷◌, ◌++◌, length, Bool, true, false, cond, sym, ◌∙◌, ap, refl, subst, arith, append_assoc, length-append}
use Rattle.std.specs.Prelude.{pos, ◌+ℤ◌, ◌≤ℤ◌}
use Rattle.std.specs.List.{All, AllZip, Contains, sum_by}
use Rattle.std.proofs.lemmas.Int.{ints}
use Rattle.std.proofs.lemmas.List.{append-nil}
use Rattle.std.proofs.lemmas.List.Sums.{sum_by-cons, sum_by-append}
use Rattle.std.proofs.lemmas.List.Elements.{All-append, All-cons, All-head, All-tail, All-contains, Contains-push_cases}
use Rattle.plane.specs.declared.coordinates.Point.{Point}
use Rattle.plane.specs.Geometry.{IsClear}
use Rattle.raise_laws.specs.Laws.{Grows}
use Rattle.price_defs.specs.declared.row.Row.{Row}
use Rattle.price_defs.specs.declared.row.Row.TheVariants.{Half, Three, Cross, Cap}
use Rattle.price_defs.specs.declared.row.TheConstants.{MOST_ROWS}
use Rattle.cost_defs.specs.Costs.{Costed, cost}
use Rattle.price_defs.specs.Rows.{IsRight, AreRight, weight, Counts, counts, lessens}
use Rattle.price_defs.specs.Loads.{given, lessened, load, IsValid, lost}
use Rattle.price_defs.specs.Tight.{IsAtPoint, IsFull}
use Rattle.price_defs.specs.Raising.{reweigh, IsRoom, IsRaisedRow, AreRaisedFrom, AreRaised}
use Rattle.price_defs.proofs.laws.Tests.{counts_decides}
use Rattle.price_defs.proofs.laws.Counted.{row_free}
use Rattle.price_defs.proofs.laws.Reweighed.{counts_reweigh, weight_reweigh, right_reweigh}

pub counted_same : (S : List Point) (row : Row) (v i j : ℕ) → Counts S row i j → Counts S (reweigh row v) i j
counted_same S (Half p q w) v i j h = h
counted_same S (Three p w) v i j h = h
counted_same S (Cross e f w) v i j h = h
counted_same S (Cap e w) v i j h = h

pub counted_back : (S : List Point) (row : Row) (v i j : ℕ) → Counts S (reweigh row v) i j → Counts S row i j
counted_back S (Half p q w) v i j h = h
counted_back S (Three p w) v i j h = h
counted_back S (Cross e f w) v i j h = h
counted_back S (Cap e w) v i j h = h

taken_same : (row : Row) (v i j : ℕ) → IsAtPoint row → lessened i j (reweigh row v) ≡ lessened i j row
unfolding lessens
taken_same (Half p q w) v i j h = refl
taken_same (Three p w) v i j h = refl
taken_same (Cross e f w) v i j h = absurd h
taken_same (Cap e w) v i j h = absurd h

cond_sum : (c : Bool) (a b : ℕ) → cond c (a + b) 0 ≡ cond c a 0 + cond c b 0
cond_sum true a b = refl
cond_sum false a b = refl

given_more : (S : List Point) (row : Row) (more i j : ℕ) → given S i j (reweigh row (weight row + more)) ≡ given S i j row + cond (counts S row i j) more 0
given_more S row more i j =
    ap (λ c. cond c (weight (reweigh row (weight row + more))) 0) (counts_reweigh S row (weight row + more) i j)
    ∙ ap (λ w. cond (counts S row i j) w 0) (weight_reweigh row (weight row + more))
    ∙ cond_sum (counts S row i j) (weight row) more

sum_mid : (f : Row → ℕ) (done rest : List Row) (x : Row) → sum_by f (done ++ x ∷ rest) ≡ sum_by f done + (f x + sum_by f rest)
sum_mid f done rest x = sum_by-append f done (x ∷ rest) ∙ ap (λ n. sum_by f done + n) (sum_by-cons f x rest)

-- the loads after a row in the middle got more weight
pub load_more : (S : List Point) (done rest : List Row) (row : Row) (more i j : ℕ) → IsAtPoint row
    → load S (done ++ reweigh row (weight row + more) ∷ rest) i j ≡ (load S (done ++ row ∷ rest) i j +ℤ pos (cond (counts S row i j) more 0))
load_more S done rest row more i j h =
    omega (
      arith,
      ints,
      sum_mid (given S i j) done rest row,
      sum_mid (given S i j) done rest (reweigh row (weight row + more)),
      sum_mid (lessened i j) done rest row,
      sum_mid (lessened i j) done rest (reweigh row (weight row + more)),
      given_more S row more i j,
      taken_same row (weight row + more) i j h,
    )

-- one raising of a row in the middle, told without the row's kind
pub record IsStep (S : List Point) (D : List Costed) (q : ℕ) (rows : List Row) (old new : Row) : Type 0 where
  pub more : ℕ
  pub is : new ≡ reweigh old (weight old + more)
  pub room : (IsAtPoint old × IsRoom S D q rows old more) ⊎ ((¬ IsAtPoint old) × (new ≡ old))

pub step_of : (S : List Point) (D : List Costed) (q : ℕ) (rows : List Row) (old new : Row) → IsRaisedRow S D q rows old new → IsStep S D q rows old new
step_of S D q rows (Half p r w) new h = record { more = h.0; is = h.2; room = inl (tt, h.1) }
step_of S D q rows (Three p w) new h = record { more = h.0; is = h.2; room = inl (tt, h.1) }
step_of S D q rows (Cross e f w) new h = record { more = 0; is = h ∙ ap (λ v. Cross e f v) (omega arith); room = inr (λ f. f, h) }
step_of S D q rows (Cap e w) new h = record { more = 0; is = h ∙ ap (λ v. Cap e v) (omega arith); room = inr (λ f. f, h) }

-- loads only grow
pub load_grows : (S : List Point) (D : List Costed) (q : ℕ) (done rest : List Row) (old new : Row) → IsStep S D q (done ++ old ∷ rest) old new → (i j : ℕ)
    → load S (done ++ old ∷ rest) i j ≤ℤ load S (done ++ new ∷ rest) i j
load_grows S D q done rest old new step i j =
    elim step.room [
      | inl h ↦ subst (λ x. load S (done ++ old ∷ rest) i j ≤ℤ load S (done ++ x ∷ rest) i j) (sym step.is) (omega (arith, ints, load_more S done rest old step.more i j h.0))
      | inr h ↦ subst (λ x. load S (done ++ old ∷ rest) i j ≤ℤ load S (done ++ x ∷ rest) i j) (sym h.1) (omega (arith, ints))
    ]

-- no load gets above what is allowed
load_allowed : (S : List Point) (D : List Costed) (q : ℕ) (done rest : List Row) (old : Row) (more i j : ℕ) → IsAtPoint old → IsRoom S D q (done ++ old ∷ rest) old more
    → i < j → j < length S → IsClear S i j → load S (done ++ old ∷ rest) i j ≤ℤ pos (q * cost D i j)
    → load S (done ++ reweigh old (weight old + more) ∷ rest) i j ≤ℤ pos (q * cost D i j)
load_allowed S D q done rest old more i j h room l n c before =
    let e : load S (done ++ reweigh old (weight old + more) ∷ rest) i j ≡ (load S (done ++ old ∷ rest) i j +ℤ pos (cond (counts S old i j) more 0)) = load_more S done rest old more i j h in
    rw e (
    elim (counts S old i j) as (λ t. counts S old i j ≡ t → (load S (done ++ old ∷ rest) i j +ℤ pos (cond t more 0)) ≤ℤ pos (q * cost D i j)) [
      | true ↦ λ g. room.least i j l n c ((counts_decides S old i j).0 g)
      | false ↦ λ g. omega (arith, ints)
    ] refl)

length_mid : (done rest : List Row) (x y : Row) → length (done ++ x ∷ rest) ≡ length (done ++ y ∷ rest)
length_mid done rest x y = length-append done (x ∷ rest) ∙ sym (length-append done (y ∷ rest))

append_parts : (P : Row → Type 0) (done rest : List Row) → All P (done ++ rest) → All P done × All P rest
append_parts P [] rest h = (λ k d l. absurd (omega arith), h)
append_parts P (x ∷ done) rest h =
    let ih : All P done × All P rest = append_parts P done rest (All-tail P x (done ++ rest) h) in
    (All-cons P x done (All-head P x (done ++ rest) h) ih.0, ih.1)

right_mid : (S : List Point) (done rest : List Row) (old : Row) (v : ℕ) → AreRight S (done ++ old ∷ rest) → AreRight S (done ++ reweigh old v ∷ rest)
right_mid S done rest old v h =
    let p : All (IsRight S) done × All (IsRight S) (old ∷ rest) = append_parts (IsRight S) done (old ∷ rest) h in
    All-append (IsRight S) done (reweigh old v ∷ rest) p.0
    (All-cons (IsRight S) (reweigh old v) rest (right_reweigh S old v (All-head (IsRight S) old rest p.1)) (All-tail (IsRight S) old rest p.1))

pub right_old : (S : List Point) (done rest : List Row) (old : Row) → AreRight S (done ++ old ∷ rest) → IsRight S old
right_old S done rest old h = All-head (IsRight S) old rest (append_parts (IsRight S) done (old ∷ rest) h).1

-- One raising keeps a certificate valid.
pub step_valid : (S : List Point) (D : List Costed) (q : ℕ) (done rest : List Row) (old new : Row) → IsStep S D q (done ++ old ∷ rest) old new
    → IsValid S D q (done ++ old ∷ rest) → IsValid S D q (done ++ new ∷ rest)
step_valid S D q done rest old new step valid =
    elim step.room [
      | inl h ↦ subst (λ x. IsValid S D q (done ++ x ∷ rest)) (sym step.is) (record {
        divisor = valid.divisor;
        count = subst (λ n. n ≤ MOST_ROWS) (length_mid done rest old (reweigh old (weight old + step.more))) valid.count;
        right = right_mid S done rest old (weight old + step.more) valid.right;
        loads = λ i j l n c b. load_allowed S D q done rest old step.more i j h.0 h.1 l n c (valid.loads i j l n c b);
      })
      | inr h ↦ subst (λ x. IsValid S D q (done ++ x ∷ rest)) (sym h.1) valid
    ]

squeezed : (a b c : ℕ) → a ≤ b → b ≤ a → a ≡ b
squeezed a b c h k = omega arith

-- a full row stays full where loads only grow and the certificate is valid
pub stays_full : (S : List Point) (D : List Costed) (q : ℕ) (rows more : List Row) (row : Row) → IsRight S row → IsValid S D q more
    → ((i j : ℕ) → load S rows i j ≤ℤ load S more i j) → IsFull S D q rows row → IsFull S D q more row
stays_full S D q rows more row right valid grows full = record {
  i = full.i;
  j = full.j;
  ordered = full.ordered;
  within = full.within;
  clear = full.clear;
  counted = full.counted;
  full = omega (arith, ints, full.full, grows full.i full.j, valid.loads full.i full.j full.ordered full.within full.clear (λ b. row_free S row full.i full.j right b full.ordered full.within full.counted));
}

-- the raised row is full
pub step_full : (S : List Point) (D : List Costed) (q : ℕ) (done rest : List Row) (old new : Row) → IsStep S D q (done ++ old ∷ rest) old new
    → IsAtPoint new → IsFull S D q (done ++ new ∷ rest) new
step_full S D q done rest old new step at_point =
    elim step.room [
      | inl h ↦ subst (λ x. IsFull S D q (done ++ x ∷ rest) x) (sym step.is) (record {
        i = h.1.i;
        j = h.1.j;
        ordered = h.1.ordered;
        within = h.1.within;
        clear = h.1.clear;
        counted = counted_same S old (weight old + step.more) h.1.i h.1.j h.1.counted;
        full = load_more S done rest old step.more h.1.i h.1.j h.0
            ∙ ap (λ t. load S (done ++ old ∷ rest) h.1.i h.1.j +ℤ pos (cond t step.more 0)) ((counts_decides S old h.1.i h.1.j).1 h.1.counted)
            ∙ h.1.is;
      })
      | inr h ↦ absurd (h.0 (subst IsAtPoint h.1 at_point))
    ]

-- what is known on the way: valid, and the rows that are done are full
pub record IsUnderWay (S : List Point) (D : List Costed) (q : ℕ) (done rest : List Row) : Type 0 where
  pub valid : IsValid S D q (done ++ rest)
  pub full : (row : Row) → Contains done row → IsAtPoint row → IsFull S D q (done ++ rest) row

regroup : (done rest : List Row) (x : Row) → (done ++ x ∷ []) ++ rest ≡ done ++ x ∷ rest
regroup done rest x = append_assoc done (x ∷ []) rest

goes_on : (S : List Point) (D : List Costed) (q : ℕ) (done rest : List Row) (old new : Row) → IsStep S D q (done ++ old ∷ rest) old new
    → IsUnderWay S D q done (old ∷ rest) → IsUnderWay S D q (done ++ new ∷ []) rest
goes_on S D q done rest old new step way =
    let valid : IsValid S D q (done ++ new ∷ rest) = step_valid S D q done rest old new step way.valid in
    let right : All (IsRight S) done × All (IsRight S) (old ∷ rest) = append_parts (IsRight S) done (old ∷ rest) (let v : IsValid S D q (done ++ old ∷ rest) = way.valid in v.right) in
    record {
      valid = subst (λ rows. IsValid S D q rows) (sym (regroup done rest new)) valid;
      full = λ row c h. subst (λ rows. IsFull S D q rows row) (sym (regroup done rest new)) (elim (Contains-push_cases done new row c) [
        | inl k ↦ stays_full S D q (done ++ old ∷ rest) (done ++ new ∷ rest) row (All-contains (IsRight S) done row right.0 k) valid
            (load_grows S D q done rest old new step) (way.full row k h)
        | inr e ↦ subst (λ x. IsFull S D q (done ++ new ∷ rest) x) e (step_full S D q done rest old new step (subst IsAtPoint (sym e) h))
      ]);
    }

pub all_raised : (S : List Point) (D : List Costed) (q : ℕ) (done rest out : List Row) → AreRaisedFrom S D q done rest out → IsUnderWay S D q done rest → IsUnderWay S D q out []
all_raised S D q done [] out h way = subst (λ x. IsUnderWay S D q x []) (sym h) way
all_raised S D q done (row ∷ rest) out (new, raised, later) way =
    all_raised S D q (done ++ new ∷ []) rest out later (goes_on S D q done rest row new (step_of S D q (done ++ row ∷ rest) row new raised) way)

-- The raised certificate is valid,
pub raised_valid : (S : List Point) (D : List Costed) (q : ℕ) (rows out : List Row) → AreRaised S D q rows out → IsValid S D q rows → IsValid S D q out
raised_valid S D q rows out raised valid =
    let way : IsUnderWay S D q out [] = all_raised S D q [] rows out raised (record { valid = valid; full = λ row c h. absurd (omega (arith, c.1)) }) in
    subst (λ x. IsValid S D q x) (append-nil out) way.valid

-- and each of its Half and Three rows counts a full pair.
pub raised_full : (S : List Point) (D : List Costed) (q : ℕ) (rows out : List Row) → AreRaised S D q rows out → IsValid S D q rows
    → (row : Row) → Contains out row → IsAtPoint row → IsFull S D q out row
raised_full S D q rows out raised valid row c h =
    let way : IsUnderWay S D q out [] = all_raised S D q [] rows out raised (record { valid = valid; full = λ row c h. absurd (omega (arith, c.1)) }) in
    subst (λ x. IsFull S D q x row) (append-nil out) (way.full row c h)

row_grows : (S : List Point) (D : List Costed) (q : ℕ) (rows : List Row) (old new : Row) → IsRaisedRow S D q rows old new → Grows old new
row_grows S D q rows (Half p r w) new h = (w + h.0, omega arith, h.2)
row_grows S D q rows (Three p w) new h = (w + h.0, omega arith, h.2)
row_grows S D q rows (Cross e f w) new h = h
row_grows S D q rows (Cap e w) new h = h

grows_from : (S : List Point) (D : List Costed) (q : ℕ) (done rest out : List Row) → AreRaisedFrom S D q done rest out
    → (tail : List Row) × (out ≡ done ++ tail) × AllZip Grows rest tail
grows_from S D q done [] out h = ([], h ∙ sym (append-nil done), tt)
grows_from S D q done (row ∷ rest) out (new, raised, later) =
    let ih : (tail : List Row) × (out ≡ (done ++ new ∷ []) ++ tail) × AllZip Grows rest tail = grows_from S D q (done ++ new ∷ []) rest out later in
    (new ∷ ih.0, ih.1 ∙ regroup done ih.0 new, (row_grows S D q (done ++ row ∷ rest) row new raised, ih.2))

-- No weight is smaller.
pub raised_grows : (S : List Point) (D : List Costed) (q : ℕ) (rows out : List Row) → AreRaised S D q rows out → AllZip Grows rows out
raised_grows S D q rows out raised =
    let g : (tail : List Row) × (out ≡ [] ++ tail) × AllZip Grows rows tail = grows_from S D q [] rows out raised in
    subst (AllZip Grows rows) (sym g.1) g.2

-- raising leaves the weights of the Cross and Cap rows as they are
grown_row_lost : (old new : Row) → Grows old new → lost new ≡ lost old
grown_row_lost (Half p r w) new (v, more, is) = ap lost is
grown_row_lost (Three p w) new (v, more, is) = ap lost is
grown_row_lost (Cross e f w) new is = ap lost is
grown_row_lost (Cap e w) new is = ap lost is

pub grown_lost : (rows out : List Row) → AllZip Grows rows out → sum_by lost out ≡ sum_by lost rows
grown_lost [] [] all = refl
grown_lost [] (y ∷ out) all = absurd all
grown_lost (x ∷ rows) [] all = absurd all
grown_lost (x ∷ rows) (y ∷ out) all =
    let first : lost y ≡ lost x = grown_row_lost x y all.0 in
    let rest : sum_by lost out ≡ sum_by lost rows = grown_lost rows out all.1 in
    sum_by-cons lost y out ∙ ap (λ (n : ℕ). n + sum_by lost out) first ∙ ap (λ (n : ℕ). lost x + n) rest ∙ sym (sum_by-cons lost x rows)
