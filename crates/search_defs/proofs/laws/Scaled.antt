-- A certificate whose divisor and weights are multiplied by one number, and the whole price rule.
use Rattle.std.proofs.Common.{◌≡◌, ◌≢◌, ℕ, ◌+◌, ◌-◌, ◌*◌, ◌<◌, ◌≤◌, inl, inr, List, [], ◌∷◌, length, Bool, true, false, cond, sym, ◌∙◌, ap, refl, subst, arith}
use Rattle.std.specs.Prelude.{pos, ◌≤ℤ◌, nat_le, not, ◌&&◌}
use Rattle.std.specs.Int.{div_ceil}
use Rattle.std.specs.List.{Contains, sum_by, list_any}
use Rattle.std.proofs.lemmas.Int.{ints}
use Rattle.std.proofs.lemmas.Bool.{cases_lt}
use Rattle.std.proofs.lemmas.Grind.{div_ceil_times}
use Rattle.std.proofs.lemmas.List.{length-map}
use Rattle.std.proofs.lemmas.List.Sums.{sum_by-cons}
use Rattle.std.proofs.lemmas.List.Elements.{All-cons, All-nil, All-head, All-tail}
use Rattle.std.proofs.Math.Nat.{mul-le-mul_left, mul_comm}
use Rattle.plane.specs.declared.coordinates.Point.{Point}
use Rattle.price_defs.specs.declared.row.Row.{Row}
use Rattle.price_defs.specs.declared.row.Row.TheVariants.{Half, Three, Cross, Cap}
use Rattle.cost_defs.specs.Costs.{Costed, cost}
use Rattle.price_defs.specs.Rows.{IsRight, AreRight, weight, counts, lessens}
use Rattle.price_defs.specs.Loads.{given, lessened, gives, takes, load, IsValid, added, lost, value}
use Rattle.price_defs.specs.Tight.{IsAtPoint, IsFull, IsTight}
use Rattle.price_defs.specs.Floor.{IsInnerList}
use Rattle.price_defs.specs.Raising.{reweigh}
use Rattle.search_defs.specs.Priced.{is_taker, factor, scaled, IsPriced}
use Rattle.number_laws.proofs.ListSums.{contains_cases, contains_here, contains_later}
use Rattle.price_defs.proofs.laws.Duality.{ceil-le}
use Rattle.raise_laws.proofs.laws.Raises.{counted_same}
use Rattle.price_defs.proofs.laws.Reweighed.{right_reweigh}
use Rattle.raise_laws.proofs.laws.Tightened.{AreKept, kept_covered}
use Rattle.search_defs.proofs.laws.Trials.{rounds_good}
use Rattle.raise_laws.specs.Laws.{IsGood}

abbrev up : ℕ → Row → Row
up f row = reweigh row (weight row * f)

cond_times : (c : Bool) (w f : ℕ) → cond c (w * f) 0 ≡ cond c w 0 * f
cond_times true w f = refl
cond_times false w f = omega arith

up_given : (S : List Point) (f i j : ℕ) (row : Row) → given S i j (up f row) ≡ given S i j row * f
unfolding counts
up_given S f i j (Half p q w) = cond_times (counts S (Half p q w) i j) w f
up_given S f i j (Three p w) = cond_times (counts S (Three p w) i j) w f
up_given S f i j (Cross e g w) = omega arith
up_given S f i j (Cap e w) = omega arith

up_taken : (f i j : ℕ) (row : Row) → lessened i j (up f row) ≡ lessened i j row * f
unfolding lessens
up_taken f i j (Half p q w) = omega arith
up_taken f i j (Three p w) = omega arith
up_taken f i j (Cross e g w) = cond_times (lessens (Cross e g w) i j) w f
up_taken f i j (Cap e w) = cond_times (lessens (Cap e w) i j) w f

up_added : (f : ℕ) (row : Row) → added (up f row) ≡ added row * f
up_added f (Half p q w) = refl
up_added f (Three p w) = omega arith
up_added f (Cross e g w) = omega arith
up_added f (Cap e w) = omega arith

up_lost : (f : ℕ) (row : Row) → lost (up f row) ≡ lost row * f
up_lost f (Half p q w) = omega arith
up_lost f (Three p w) = omega arith
up_lost f (Cross e g w) = refl
up_lost f (Cap e w) = refl

spread : (a b f : ℕ) → (a + b) * f ≡ a * f + b * f
spread a b f = omega arith

scaled_sum : (g : Row → ℕ) (f : ℕ) → ((row : Row) → g (up f row) ≡ g row * f) → (rows : List Row) → sum_by g (scaled f rows) ≡ sum_by g rows * f
scaled_sum g f h [] = omega arith
scaled_sum g f h (row ∷ rows) =
    omega (arith, sum_by-cons g (up f row) (scaled f rows), ap (λ n. n * f) (sum_by-cons g row rows), h row, scaled_sum g f h rows)

scaled_right : (S : List Point) (f : ℕ) (rows : List Row) → AreRight S rows → AreRight S (scaled f rows)
scaled_right S f [] h = All-nil (IsRight S)
scaled_right S f (row ∷ rows) h =
    All-cons (IsRight S) (up f row) (scaled f rows) (right_reweigh S row (weight row * f) (All-head (IsRight S) row rows h)) (scaled_right S f rows (All-tail (IsRight S) row rows h))

times_le : (g q c t f : ℕ) → g ≤ q * c + t → g * f ≤ (q * f) * c + t * f
times_le g q c t f h = let k : f * g ≤ f * (q * c + t) = mul-le-mul_left f h in omega arith

times_is : (g q c t f : ℕ) → g ≡ q * c + t → g * f ≡ (q * f) * c + t * f
times_is g q c t f h = let k : f * g ≡ f * (q * c + t) = ap (λ n. f * n) h in omega arith

-- A certificate times a number from 1 is valid,
pub scaled_valid : (S : List Point) (D : List Costed) (q f : ℕ) (rows : List Row) → 0 < f → IsValid S D q rows → IsValid S D (q * f) (scaled f rows)
scaled_valid S D q f rows some valid = record {
  divisor = (let k : f * 1 ≤ f * q = mul-le-mul_left f valid.divisor in omega (arith, mul_comm f q));
  count = omega (arith, valid.count, length-map rows (up f));
  right = scaled_right S f rows valid.right;
  loads = λ i j l n c b. (let v : load S rows i j ≤ℤ pos (q * cost D i j) = valid.loads i j l n c b in
      let k : gives S rows i j * f ≤ (q * f) * cost D i j + takes rows i j * f = times_le (gives S rows i j) q (cost D i j) (takes rows i j) f (omega (arith, ints)) in
      omega (arith, ints, scaled_sum (given S i j) f (up_given S f i j) rows, scaled_sum (lessened i j) f (up_taken f i j) rows));
}

scaled_kept : (f : ℕ) (rows : List Row) → AreKept rows (scaled f rows)
scaled_kept f [] row c = absurd (omega (arith, c.1))
scaled_kept f (x ∷ xs) row c =
    elim (contains_cases x xs row c) [
      | inl e ↦ (weight row * f, subst (Contains (scaled f (x ∷ xs))) (ap (up f) e) (contains_here (up f x) (scaled f xs)))
      | inr k ↦ (let m : (v : ℕ) × Contains (scaled f xs) (reweigh row v) = scaled_kept f xs row k in (m.0, contains_later (up f x) (scaled f xs) (reweigh row m.0) m.1))
    ]

-- each row of the result is one of the rows, times the number
scaled_from : (f : ℕ) (rows : List Row) (row : Row) → Contains (scaled f rows) row → (old : Row) × Contains rows old × (row ≡ up f old)
scaled_from f [] row c = absurd (omega (arith, c.1))
scaled_from f (x ∷ xs) row c =
    elim (contains_cases (up f x) (scaled f xs) row c) [
      | inl e ↦ (x, contains_here x xs, sym e)
      | inr k ↦ (let m : (old : Row) × Contains xs old × (row ≡ up f old) = scaled_from f xs row k in (m.0, contains_later x xs m.0 m.1, m.2))
    ]

at_point_back : (row : Row) (v : ℕ) → IsAtPoint (reweigh row v) → IsAtPoint row
at_point_back (Half p q w) v h = h
at_point_back (Three p w) v h = h
at_point_back (Cross e g w) v h = h
at_point_back (Cap e w) v h = h

scaled_full : (S : List Point) (D : List Costed) (q f : ℕ) (rows : List Row) (row : Row) → IsFull S D q rows row → IsFull S D (q * f) (scaled f rows) (up f row)
scaled_full S D q f rows row full =
    let k : gives S rows full.i full.j * f ≡ (q * f) * cost D full.i full.j + takes rows full.i full.j * f =
    times_is (gives S rows full.i full.j) q (cost D full.i full.j) (takes rows full.i full.j) f (omega (arith, ints, full.full)) in
    record {
      i = full.i;
      j = full.j;
      ordered = full.ordered;
      within = full.within;
      clear = full.clear;
      counted = counted_same S row (weight row * f) full.i full.j full.counted;
      full = omega (arith, ints, scaled_sum (given S full.i full.j) f (up_given S f full.i full.j) rows, scaled_sum (lessened full.i full.j) f (up_taken f full.i full.j) rows);
    }

-- tight,
pub scaled_tight : (S : List Point) (D : List Costed) (q f : ℕ) (rows : List Row) → IsTight S D q rows → IsTight S D (q * f) (scaled f rows)
scaled_tight S D q f rows tight = record {
  covered = kept_covered S rows (scaled f rows) (scaled_kept f rows) tight.covered;
  full = λ row c h. (let m : (old : Row) × Contains rows old × (row ≡ up f old) = scaled_from f rows row c in
      subst (IsFull S D (q * f) (scaled f rows)) (sym m.2) (scaled_full S D q f rows m.0 (tight.full m.0 m.1 (at_point_back m.0 (weight m.0 * f) (subst IsAtPoint m.2 h)))));
}

minus_times : (a b f : ℕ) → a * f - b * f ≡ (a - b) * f
minus_times a b f = elim (cases_lt a b) [
  | inl h ↦ (let k : f * a ≤ f * b = mul-le-mul_left f (omega arith) in let z : a - b ≡ 0 = omega arith in let y : (a - b) * f ≡ 0 = ap (λ n. n * f) z ∙ omega arith in omega (arith, mul_comm f a, mul_comm f b))
  | inr h ↦ (let k : f * b ≤ f * a = mul-le-mul_left f (omega arith) in let z : (a - b) + b ≡ a = omega arith in let y : ((a - b) + b) * f ≡ a * f = ap (λ n. n * f) z in omega (arith, mul_comm f a, mul_comm f b))
]

cancel_le : (x y f : ℕ) → 0 < f → x * f ≤ y * f → x ≤ y
cancel_le x y f h k = elim (cases_lt y x) [
  | inl l ↦ (let m : f * (y + 1) ≤ f * x = mul-le-mul_left f (omega arith) in absurd (omega (arith, mul_comm f x, mul_comm f y)))
  | inr l ↦ omega arith
]

ceil_times : (x q f : ℕ) → 0 < q → 0 < f → 0 < q * f → div_ceil x q ≤ div_ceil (x * f) (q * f)
ceil_times x q f hq hf hqf =
    let c : ℕ = div_ceil (x * f) (q * f) in
    ceil-le x q c hq (cancel_le x (q * c) f hf (let k : x * f ≤ c * (q * f) = (div_ceil_times (x * f) (q * f) hqf).0 in omega arith))

-- and of no smaller value.
pub scaled_value : (h q f : ℕ) (rows : List Row) → 0 < q → 0 < f → 0 < q * f → value h q rows ≤ value h (q * f) (scaled f rows)
scaled_value h q f rows hq hf hqf =
    let a : sum_by added (scaled f rows) ≡ sum_by added rows * f = scaled_sum added f (up_added f) rows in
    let b : sum_by lost (scaled f rows) ≡ sum_by lost rows * f = scaled_sum lost f (up_lost f) rows in
    let d : sum_by added (scaled f rows) - sum_by lost (scaled f rows) ≡ (sum_by added rows - sum_by lost rows) * f =
    ap (λ n. n - sum_by lost (scaled f rows)) a ∙ ap (λ n. sum_by added rows * f - n) b ∙ minus_times (sum_by added rows) (sum_by lost rows) f in
    let c : div_ceil (sum_by added rows - sum_by lost rows) q ≤ div_ceil (sum_by added (scaled f rows) - sum_by lost (scaled f rows)) (q * f) =
    subst (λ n. div_ceil (sum_by added rows - sum_by lost rows) q ≤ div_ceil n (q * f)) (sym d) (ceil_times (sum_by added rows - sum_by lost rows) q f hq hf hqf) in
    omega arith

pub factor_some : (q : ℕ) (rows : List Row) → 0 < factor q rows
factor_some q rows = elim (nat_le q 10000 && not (list_any is_taker rows)) as (λ t. 0 < cond t 60 1) [ true ↦ omega arith | false ↦ omega arith ]

some_inner : (inner : List ℕ) → inner ≢ [] → 0 < length inner
some_inner [] h = absurd (h refl)
some_inner (p ∷ ps) h = omega arith

-- What the price rule gives is valid, tight and of no smaller value.
pub priced_good : (S : List Point) (D : List Costed) (h : ℕ) (inner : List ℕ) (words : List (ℕ × ℕ)) (q : ℕ) (rows : List Row) (Q : ℕ) (out : List Row)
    → 3 ≤ length S → IsInnerList S inner → IsPriced S D inner words q rows Q out → IsGood S D q rows → IsGood S D Q out × (value h q rows ≤ value h Q out)
priced_good S D h inner words q rows Q out many list (inl (none, is, so)) good =
    subst (λ n. IsGood S D n out × (value h q rows ≤ value h n out)) (sym is) (subst (λ x. IsGood S D q x × (value h q rows ≤ value h q x)) (sym so) (good, omega arith))
priced_good S D h inner words q rows Q out many list (inr (some, there, is, rounds)) good =
    let f : ℕ = factor q rows in
    let valid : IsValid S D q rows = good.valid in
    let v : IsValid S D (q * f) (scaled f rows) = scaled_valid S D q f rows (factor_some q rows) valid in
    let start : IsGood S D Q (scaled f rows) = subst (λ n. IsGood S D n (scaled f rows)) (sym is) (record { valid = v; tight = scaled_tight S D q f rows good.tight }) in
    let a : value h q rows ≤ value h Q (scaled f rows) = subst (λ n. value h q rows ≤ value h n (scaled f rows)) (sym is) (scaled_value h q f rows valid.divisor (factor_some q rows) v.divisor) in
    let b : IsGood S D Q out × (value h Q (scaled f rows) ≤ value h Q out) = rounds_good S D h Q inner words (scaled f rows) out many list (some_inner inner there) rounds start in
    (b.0, omega (arith, a, b.1))
