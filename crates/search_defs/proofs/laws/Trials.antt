-- One trial and one round of the price rule: valid, tight, and of no smaller value where it is taken.
use Rattle.std.proofs.Common.{◌≡◌, ◌≢◌, ℕ, ◌+◌, ◌-◌, ◌*◌, ◌<◌, ◌≤◌, inl, inr, List, [], ◌∷◌, ◌++◌, length, Bool, true, false, cond, sym, ◌∙◌, ap, refl, subst, arith}
use Rattle.std.specs.Prelude.{pos, ◌≤ℤ◌, nat_le, nat_lt, not, ◌||◌, slice_index, ◌%◌}
use Rattle.std.specs.Int.{div_ceil}
use Rattle.std.specs.List.{Contains, sum_by, list_any}
use Rattle.std.proofs.lemmas.Int.{ints}
use Rattle.std.proofs.lemmas.Bool.{leb-true, ltb-true, lt-ltb, true≢false, or_parts}
use Rattle.std.proofs.Common.{length-append}
use Rattle.std.proofs.lemmas.List.{length-map}
use Rattle.std.proofs.lemmas.List.Sums.{sum_by-cons, sum_by-append}
use Rattle.std.proofs.lemmas.List.Elements.{All-append, All-cons, All-nil, All-head, All-tail, Contains-append_left, Contains-append_right, Contains-append_cases, Contains-get_or}
use Rattle.plane.specs.declared.coordinates.Point.{Point}
use Rattle.plane.specs.Geometry.{IsInner}
use Rattle.raise_laws.specs.Laws.{IsGood}
use Rattle.price_defs.specs.declared.row.Row.{Row}
use Rattle.price_defs.specs.declared.row.Row.TheVariants.{Half, Three, Cross, Cap}
use Rattle.price_defs.specs.declared.row.TheConstants.{MOST_ROWS}
use Rattle.cost_defs.specs.Costs.{Costed, cost}
use Rattle.price_defs.specs.Rows.{IsRight, AreRight, weight, counts, lessens}
use Rattle.price_defs.specs.Loads.{given, lessened, gives, takes, load, IsValid, added, lost, value}
use Rattle.price_defs.specs.Tight.{AreCovered, IsTight}
use Rattle.price_defs.specs.Floor.{IsInnerList}
use Rattle.price_defs.specs.Raising.{reweigh, IsRaisedRow}
use Rattle.price_defs.specs.Rows.{is_at}
use Rattle.search_defs.specs.Priced.{is_half, lowered, opened, IsLifted, IsTrial, taken_of, other_than, IsRound, AreRounds}
use Rattle.number_laws.proofs.ListSums.{contains_cases, contains_here, contains_later}
use Rattle.raise_laws.proofs.laws.Raises.{step_of, step_valid, raised_valid}
use Rattle.price_defs.proofs.laws.Reweighed.{right_reweigh}
use Rattle.raise_laws.proofs.laws.Tightened.{AreKept, kept_trans, kept_covered, raised_tight}

-- A certificate with the same rows up to their weights and no greater load is valid too.
pub valid_below : (S : List Point) (D : List Costed) (q : ℕ) (rows out : List Row) → IsValid S D q rows → length out ≤ MOST_ROWS → AreRight S out
    → ((i j : ℕ) → load S out i j ≤ℤ load S rows i j) → IsValid S D q out
valid_below S D q rows out valid count right below = record {
  divisor = valid.divisor;
  count = count;
  right = right;
  loads = λ i j l n c b. (let g : load S rows i j ≤ℤ pos (q * cost D i j) = valid.loads i j l n c b in omega (arith, ints, below i j));
}

-- the row as it is lowered
abbrev low : ℕ → Row → Row
low p row = cond (is_at p row) (reweigh row 0) row

low_right : (S : List Point) (p : ℕ) (row : Row) → IsRight S row → IsRight S (low p row)
low_right S p row h = elim (is_at p row) as (λ t. IsRight S (cond t (reweigh row 0) row)) [ true ↦ right_reweigh S row 0 h | false ↦ h ]

cond_nil : (c : Bool) (w : ℕ) → cond c 0 0 ≤ cond c w 0
cond_nil true w = omega arith
cond_nil false w = omega arith

low_given : (S : List Point) (p i j : ℕ) (row : Row) → given S i j (low p row) ≤ given S i j row
unfolding counts
low_given S p i j (Half u r w) = elim (is_at p (Half u r w)) as (λ t. given S i j (cond t (Half u r 0) (Half u r w)) ≤ given S i j (Half u r w)) [ true ↦ cond_nil (counts S (Half u r w) i j) w | false ↦ omega arith ]
low_given S p i j (Three u w) = elim (is_at p (Three u w)) as (λ t. given S i j (cond t (Three u 0) (Three u w)) ≤ given S i j (Three u w)) [ true ↦ cond_nil (counts S (Three u w) i j) w | false ↦ omega arith ]
low_given S p i j (Cross e f w) = omega arith
low_given S p i j (Cap e w) = omega arith

low_taken : (p i j : ℕ) (row : Row) → lessened i j (low p row) ≡ lessened i j row
unfolding lessens
low_taken p i j (Half u r w) = elim (is_at p (Half u r w)) as (λ t. lessened i j (cond t (Half u r 0) (Half u r w)) ≡ lessened i j (Half u r w)) [ true ↦ refl | false ↦ refl ]
low_taken p i j (Three u w) = elim (is_at p (Three u w)) as (λ t. lessened i j (cond t (Three u 0) (Three u w)) ≡ lessened i j (Three u w)) [ true ↦ refl | false ↦ refl ]
low_taken p i j (Cross e f w) = refl
low_taken p i j (Cap e w) = refl

lowered_gives : (S : List Point) (p i j : ℕ) (rows : List Row) → gives S (lowered p rows) i j ≤ gives S rows i j
lowered_gives S p i j [] = omega arith
lowered_gives S p i j (row ∷ rows) =
    omega (arith, sum_by-cons (given S i j) (low p row) (lowered p rows), sum_by-cons (given S i j) row rows, low_given S p i j row, lowered_gives S p i j rows)

pub lowered_takes : (p i j : ℕ) (rows : List Row) → takes (lowered p rows) i j ≡ takes rows i j
lowered_takes p i j [] = refl
lowered_takes p i j (row ∷ rows) =
    omega (arith, sum_by-cons (lessened i j) (low p row) (lowered p rows), sum_by-cons (lessened i j) row rows, low_taken p i j row, lowered_takes p i j rows)

lowered_right : (S : List Point) (p : ℕ) (rows : List Row) → AreRight S rows → AreRight S (lowered p rows)
lowered_right S p [] h = All-nil (IsRight S)
lowered_right S p (row ∷ rows) h =
    All-cons (IsRight S) (low p row) (lowered p rows) (low_right S p row (All-head (IsRight S) row rows h)) (lowered_right S p rows (All-tail (IsRight S) row rows h))

-- Lowering keeps a certificate valid.
pub lowered_valid : (S : List Point) (D : List Costed) (q p : ℕ) (rows : List Row) → IsValid S D q rows → IsValid S D q (lowered p rows)
lowered_valid S D q p rows valid =
    valid_below S D q rows (lowered p rows) valid (omega (arith, valid.count, length-map rows (low p))) (lowered_right S p rows valid.right)
    (λ i j. omega (arith, ints, lowered_gives S p i j rows, lowered_takes p i j rows))

low_is : (p : ℕ) (row : Row) → (v : ℕ) × (low p row ≡ reweigh row v)
low_is p row = elim (is_at p row) as (λ t. (v : ℕ) × (cond t (reweigh row 0) row ≡ reweigh row v)) [ true ↦ (0, refl) | false ↦ (weight row, own row) ]
  where
    own : (row : Row) → row ≡ reweigh row (weight row)
    own (Half u r w) = refl
    own (Three u w) = refl
    own (Cross e f w) = refl
    own (Cap e w) = refl

lowered_kept : (p : ℕ) (rows : List Row) → AreKept rows (lowered p rows)
lowered_kept p [] row c = absurd (omega (arith, c.1))
lowered_kept p (x ∷ xs) row c =
    elim (contains_cases x xs row c) [
      | inl e ↦ (let m : (v : ℕ) × (low p row ≡ reweigh row v) = low_is p row in
          (m.0, subst (Contains (lowered p (x ∷ xs))) (ap (low p) e ∙ m.1) (contains_here (low p x) (lowered p xs))))
      | inr k ↦ (let m : (v : ℕ) × Contains (lowered p xs) (reweigh row v) = lowered_kept p xs row k in (m.0, contains_later (low p x) (lowered p xs) (reweigh row m.0) m.1))
    ]

pub own_weight : (row : Row) → reweigh row (weight row) ≡ row
own_weight (Half u r w) = refl
own_weight (Three u w) = refl
own_weight (Cross e f w) = refl
own_weight (Cap e w) = refl

same_kept : (rows : List Row) → AreKept rows rows
same_kept rows row c = (weight row, subst (Contains rows) (sym (own_weight row)) c)

pub append_kept : (rows more : List Row) → AreKept rows (rows ++ more)
append_kept rows more row c = (weight row, subst (Contains (rows ++ more)) (sym (own_weight row)) (Contains-append_left rows more row c))

nothing : (S : List Point) (p r i j : ℕ) → given S i j (Half p r 0) ≤ 0
nothing S p r i j = elim (counts S (Half p r 0) i j) as (λ t. cond t 0 0 ≤ 0) [ true ↦ omega arith | false ↦ omega arith ]

nothing_off : (p r i j : ℕ) → lessened i j (Half p r 0) ≡ 0
unfolding lessens
nothing_off p r i j = refl

pushed_valid : (S : List Point) (D : List Costed) (q p r : ℕ) (rows : List Row) → IsRight S (Half p r 0) → IsValid S D q rows → length rows < MOST_ROWS → IsValid S D q (rows ++ Half p r 0 ∷ [])
pushed_valid S D q p r rows right valid few =
    valid_below S D q rows (rows ++ Half p r 0 ∷ []) valid (omega (arith, length-append rows (Half p r 0 ∷ [])))
    (All-append (IsRight S) rows (Half p r 0 ∷ []) valid.right (All-cons (IsRight S) (Half p r 0) [] right (All-nil (IsRight S))))
    (λ i j. omega (arith, ints, sum_by-append (given S i j) rows (Half p r 0 ∷ []), sum_by-append (lessened i j) rows (Half p r 0 ∷ []), sum_by-cons (given S i j) (Half p r 0) [], sum_by-cons (lessened i j) (Half p r 0) [], nothing S p r i j, nothing_off p r i j))

not_false : (b : Bool) → not b ≡ false → b ≡ true
not_false true h = refl
not_false false h = absurd (true≢false h)

pub opened_valid : (S : List Point) (D : List Costed) (q p r : ℕ) (rows : List Row) → IsRight S (Half p r 0) → IsValid S D q rows → IsValid S D q (opened p r rows)
opened_valid S D q p r rows right valid =
    elim (list_any (is_half p r) rows || not (nat_lt (length rows) MOST_ROWS)) as (λ t. (list_any (is_half p r) rows || not (nat_lt (length rows) MOST_ROWS)) ≡ t → IsValid S D q (cond t rows (rows ++ Half p r 0 ∷ []))) [
      | true ↦ λ e. valid
      | false ↦ λ e. pushed_valid S D q p r rows right valid (ltb-true (length rows) MOST_ROWS (not_false (nat_lt (length rows) MOST_ROWS) (or_parts (list_any (is_half p r) rows) (not (nat_lt (length rows) MOST_ROWS)) e).1))
    ] refl

opened_kept : (p r : ℕ) (rows : List Row) → AreKept rows (opened p r rows)
opened_kept p r rows =
    elim (list_any (is_half p r) rows || not (nat_lt (length rows) MOST_ROWS)) as (λ t. AreKept rows (cond t rows (rows ++ Half p r 0 ∷ []))) [
      | true ↦ same_kept rows
      | false ↦ append_kept rows (Half p r 0 ∷ [])
    ]

pub lifted_valid : (S : List Point) (D : List Costed) (q p r : ℕ) (rows out : List Row) → IsLifted S D q p r rows out → IsValid S D q rows → IsValid S D q out
lifted_valid S D q p r rows out (inl h) valid = subst (IsValid S D q) (sym h.1) valid
lifted_valid S D q p r rows out (inr (before, after, old, new, is, none, it, raised, so)) valid =
    subst (IsValid S D q) (sym so)
    (step_valid S D q before after old new (step_of S D q (before ++ old ∷ after) old new (subst (λ x. IsRaisedRow S D q x old new) is raised)) (subst (IsValid S D q) is valid))

replaced_kept : (before after : List Row) (old new : Row) → ((v : ℕ) × (new ≡ reweigh old v)) → AreKept (before ++ old ∷ after) (before ++ new ∷ after)
replaced_kept before after old new (v, is) row c =
    elim (Contains-append_cases before (old ∷ after) row c) [
      | inl h ↦ (weight row, subst (Contains (before ++ new ∷ after)) (sym (own_weight row)) (Contains-append_left before (new ∷ after) row h))
      | inr h ↦ elim (contains_cases old after row h) [
        | inl e ↦ (v, subst (Contains (before ++ new ∷ after)) (is ∙ ap (λ x. reweigh x v) e) (Contains-append_right before (new ∷ after) new (contains_here new after)))
        | inr k ↦ (weight row, subst (Contains (before ++ new ∷ after)) (sym (own_weight row)) (Contains-append_right before (new ∷ after) row (contains_later new after row k)))
      ]
    ]

raised_is : (S : List Point) (D : List Costed) (q : ℕ) (rows : List Row) (old new : Row) → IsRaisedRow S D q rows old new → (v : ℕ) × (new ≡ reweigh old v)
raised_is S D q rows (Half p r w) new h = (w + h.0, h.2)
raised_is S D q rows (Three p w) new h = (w + h.0, h.2)
raised_is S D q rows (Cross e f w) new h = (w, h)
raised_is S D q rows (Cap e w) new h = (w, h)

lifted_kept : (S : List Point) (D : List Costed) (q p r : ℕ) (rows out : List Row) → IsLifted S D q p r rows out → AreKept rows out
lifted_kept S D q p r rows out (inl h) = subst (AreKept rows) (sym h.1) (same_kept rows)
lifted_kept S D q p r rows out (inr (before, after, old, new, is, none, it, raised, so)) =
    subst (λ x. AreKept x out) (sym is) (subst (AreKept (before ++ old ∷ after)) (sym so) (replaced_kept before after old new (raised_is S D q rows old new raised)))

-- A trial is valid and tight.
pub trial_right : (S : List Point) (D : List Costed) (q p r : ℕ) (rows out : List Row) → IsRight S (Half p r 0) → IsTrial S D q p r rows out → IsValid S D q rows → AreCovered S rows
    → IsValid S D q out × IsTight S D q out
trial_right S D q p r rows out right (mid, lifted, raised) valid covered =
    let start : List Row = opened p r (lowered p rows) in
    let v : IsValid S D q start = opened_valid S D q p r (lowered p rows) right (lowered_valid S D q p rows valid) in
    let m : IsValid S D q mid = lifted_valid S D q p r start mid lifted v in
    let k : AreKept rows mid = kept_trans rows start mid (kept_trans rows (lowered p rows) start (lowered_kept p rows) (opened_kept p r (lowered p rows))) (lifted_kept S D q p r start mid lifted) in
    (raised_valid S D q mid out raised m, raised_tight S D q mid out raised m (kept_covered S rows mid k covered))

shift_le : (h x y : ℕ) → 0 + x ≤ 0 + y → h + x ≤ h + y
shift_le h x y k = omega arith

-- what is taken is good, and of no smaller value
pub taken_good : (S : List Point) (D : List Costed) (h q : ℕ) (rows trial : List Row) → IsGood S D q rows → IsGood S D q trial → IsGood S D q (taken_of q rows trial) × (value h q rows ≤ value h q (taken_of q rows trial))
taken_good S D h q rows trial old new =
    elim (nat_le (value 0 q rows) (value 0 q trial)) as (λ t. nat_le (value 0 q rows) (value 0 q trial) ≡ t → IsGood S D q (cond t trial rows) × (value h q rows ≤ value h q (cond t trial rows))) [
      | true ↦ λ e. (new, shift_le h (div_ceil (sum_by added rows - sum_by lost rows) q) (div_ceil (sum_by added trial - sum_by lost trial) q) (leb-true (value 0 q rows) (value 0 q trial) e))
      | false ↦ λ e. (old, omega arith)
    ] refl

other_differs : (p k : ℕ) → other_than p k ≢ p
other_differs p k = elim (nat_lt k p) as (λ t. nat_lt k p ≡ t → cond t k (k + 1) ≢ p) [
  | true ↦ λ e h. (let l : k < p = ltb-true k p e in omega arith)
  | false ↦ λ e h. true≢false (sym (lt-ltb k p (omega arith)) ∙ e)
] refl

other_within : (p k n : ℕ) → p < n → k < n - 1 → other_than p k < n
other_within p k n h l = elim (nat_lt k p) as (λ t. cond t k (k + 1) < n) [ true ↦ omega arith | false ↦ omega arith ]

-- the row that a round puts in is right
pub round_right : (S : List Point) (inner : List ℕ) (a b : ℕ) → 3 ≤ length S → IsInnerList S inner → 0 < length inner
    → IsRight S (Half (slice_index inner (a % length inner)) (other_than (slice_index inner (a % length inner)) (b % (length S - 1))) 0)
round_right S inner a b many list some =
    let p : ℕ = slice_index inner (a % length inner) in
    let c : Contains inner p = Contains-get_or inner (a % length inner) 0 (omega arith) in
    let i : (p < length S) × IsInner S p = (list.exact p).0 c in
    (i.0, other_within p (b % (length S - 1)) (length S) i.0 (omega arith), other_differs p (b % (length S - 1)), i.1)

-- One round keeps a certificate good, and lowers no value.
pub round_good : (S : List Point) (D : List Costed) (h q : ℕ) (inner : List ℕ) (a b : ℕ) (rows out : List Row) → 3 ≤ length S → IsInnerList S inner → 0 < length inner
    → IsRound S D q inner a b rows out → IsGood S D q rows → IsGood S D q out × (value h q rows ≤ value h q out)
round_good S D h q inner a b rows out many list some (trial, is, so) good =
    let tight : IsTight S D q rows = good.tight in
    let t : IsValid S D q trial × IsTight S D q trial =
    trial_right S D q (slice_index inner (a % length inner)) (other_than (slice_index inner (a % length inner)) (b % (length S - 1))) rows trial (round_right S inner a b many list some) is good.valid tight.covered in
    subst (λ x. IsGood S D q x × (value h q rows ≤ value h q x)) (sym so) (taken_good S D h q rows trial good (record { valid = t.0; tight = t.1 }))

-- So do all rounds.
pub rounds_good : (S : List Point) (D : List Costed) (h q : ℕ) (inner : List ℕ) (words : List (ℕ × ℕ)) (rows out : List Row) → 3 ≤ length S → IsInnerList S inner → 0 < length inner
    → AreRounds S D q inner words rows out → IsGood S D q rows → IsGood S D q out × (value h q rows ≤ value h q out)
rounds_good S D h q inner [] rows out many list some is good = subst (λ x. IsGood S D q x × (value h q rows ≤ value h q x)) (sym is) (good, omega arith)
rounds_good S D h q inner (w ∷ words) rows out many list some (mid, round, later) good =
    let a : IsGood S D q mid × (value h q rows ≤ value h q mid) = round_good S D h q inner w.0 w.1 rows mid many list some round good in
    let b : IsGood S D q out × (value h q mid ≤ value h q out) = rounds_good S D h q inner words mid out many list some later a.0 in
    (b.0, omega (arith, a.1, b.1))
