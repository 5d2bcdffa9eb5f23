-- Rooms over the other ends, and the loop over them.
use Rattle.std.proofs.Common.{◌≡◌, ℕ, ◌+◌, ◌-◌, ◌*◌, ◌<◌, ◌≤◌, inl, inr, ◌↔◌, List, [], ◌∷◌, length, min, max, Bool, true, false, cond, Option, Some, None, sym, ◌∙◌, ap, ap₂, refl, subst, arith}
use Rattle.std.specs.Prelude.{pos, ◌+ℤ◌, ◌≤ℤ◌}
use Rattle.std.proofs.lemmas.Int.{ints}
use Rattle.std.proofs.lemmas.Bool.{cases_lt, false≢true}
use Rattle.std.proofs.lemmas.Bool.Decides.{same_from_decides}
use Rattle.std.proofs.lemmas.List.Sums.{sum_by-cons}
use Rattle.std.proofs.lemmas.List.Elements.{All-head, All-tail}
use Rattle.std.proofs.Math.Nat.{mul-le-mul_left}
use Rattle.plane.specs.declared.coordinates.Point.{Point}
use Rattle.plane.specs.declared.segment.Pair.{Pair}
use Rattle.price_defs.specs.declared.row.Row.{Row}
use Rattle.price_defs.specs.declared.row.Row.TheVariants.{Half, Three, Cross, Cap}
use Rattle.cost_defs.specs.Costs.{Costed, has_ends, cost}
use Rattle.std.specs.Prelude.{IsTrue}
use Rattle.price_defs.specs.Rows.{IsRight, Counts, Lessens, counts, lessens, weight}
use Rattle.price_defs.specs.Loads.{given, lessened, gives, takes, load, IsValid}
use Rattle.price_defs.proofs.laws.Tests.{counts_decides, lessens_decides}
use Rattle.plane.proofs.laws.Border.{clear_back}
use Rattle.price_defs.proofs.laws.Counted.{row_free}
use Rattle.price_defs.proofs.laws.Counting.{counts_turned}
use Rattle.raise_laws.proofs.laws.Floored.{cost_turned}
use Rattle.dual_prices.specs.Raised.{IsCandidate}
use Rattle.dual_prices.specs.Rooms.{AreCheap, IsRoomWith, IsBelow}
use Rattle.partition_defs.proofs.laws.Joined.{ends_back}
use Rattle.std.proofs.lemmas.Option.{same_Some}

pub cheap_cost : (D : List Costed) (i j : ℕ) → AreCheap D → cost D i j ≤ 1000
cheap_cost [] i j h = omega arith
cheap_cost (x ∷ D) i j h =
    let a : x.1 ≤ 1000 = All-head (λ (y : Costed). y.1 ≤ 1000) x D h in
    let b : cost D i j ≤ 1000 = cheap_cost D i j (All-tail (λ (y : Costed). y.1 ≤ 1000) x D h) in
    elim (has_ends x.0 i j) as (λ t. cond t x.1 (cost D i j) ≤ 1000) [ true ↦ a | false ↦ b ]

-- what is allowed is small
pub allowed_small : (D : List Costed) (q i j : ℕ) → q ≤ 1000000 → AreCheap D → q * cost D i j ≤ 1000000000
allowed_small D q i j small cheap =
    let a : q * cost D i j ≤ q * 1000 = mul-le-mul_left q (cheap_cost D i j cheap) in omega arith

pub counts_same : (S : List Point) (row : Row) (i j : ℕ) → counts S row i j ≡ counts S row j i
counts_same S row i j =
    same_from_decides (counts S row i j) (counts S row j i) (counts_decides S row i j)
    (λ t. counts_turned S row j i ((counts_decides S row j i).0 t), λ h. (counts_decides S row j i).1 (counts_turned S row i j h))

lessens_turned : (row : Row) (i j : ℕ) → Lessens row i j → Lessens row j i
lessens_turned (Half p q w) i j h = h
lessens_turned (Three p w) i j h = h
lessens_turned (Cross e f w) i j (inl h) = inl (ends_back e i j h)
lessens_turned (Cross e f w) i j (inr h) = inr (ends_back f i j h)
lessens_turned (Cap e w) i j h = ends_back e i j h

lessens_same : (row : Row) (i j : ℕ) → lessens row i j ≡ lessens row j i
lessens_same row i j =
    same_from_decides (lessens row i j) (lessens row j i) (lessens_decides row i j)
    (λ t. lessens_turned row j i ((lessens_decides row j i).0 t), λ h. (lessens_decides row j i).1 (lessens_turned row i j h))

pub gives_turned : (S : List Point) (rows : List Row) (i j : ℕ) → gives S rows i j ≡ gives S rows j i
gives_turned S [] i j = refl
gives_turned S (row ∷ rows) i j =
    omega (arith, sum_by-cons (given S i j) row rows, sum_by-cons (given S j i) row rows, ap (λ t. cond t (weight row) 0) (counts_same S row i j), gives_turned S rows i j)

pub takes_turned : (rows : List Row) (i j : ℕ) → takes rows i j ≡ takes rows j i
takes_turned [] i j = refl
takes_turned (row ∷ rows) i j =
    omega (arith, sum_by-cons (lessened i j) row rows, sum_by-cons (lessened j i) row rows, ap (λ t. cond t (weight row) 0) (lessens_same row i j), takes_turned rows i j)

-- the load of a pair doesn't depend on the order of its ends
pub load_turned : (S : List Point) (rows : List Row) (i j : ℕ) → load S rows i j ≡ load S rows j i
load_turned S rows i j = omega (arith, ints, gives_turned S rows i j, takes_turned rows i j)

-- a counted clear pair has no more than is allowed
pub candidate_allowed : (S : List Point) (D : List Costed) (q : ℕ) (rows : List Row) (row : Row) (p r : ℕ) → IsValid S D q rows → IsRight S row → p < length S → r < length S
    → IsCandidate S row p r → load S rows p r ≤ℤ pos (q * cost D p r)
candidate_allowed S D q rows row p r valid right pn rn (ne, clear, counted) =
    elim (cases_lt p r) [
      | inl h ↦ valid.loads p r h rn clear (λ b. row_free S row p r right b h rn counted)
      | inr h ↦ (let l : r < p = omega arith in
          let m : load S rows r p ≤ℤ pos (q * cost D r p) = valid.loads r p l pn (clear_back S p r clear) (λ b. row_free S row r p right b l pn (counts_turned S row p r counted)) in
          subst (λ n. load S rows p r ≤ℤ pos (q * n)) (cost_turned D r p) (omega (arith, ints, load_turned S rows p r)))
    ]

-- whether a number is below the least so far
pub not_below : (x : ℕ) (best : Option ℕ) (b : Bool) → IsBelow x best b → b ≡ false → (m : ℕ) × (best ≡ Some m) × (m ≤ x)
not_below x None b h f = absurd (false≢true (sym f ∙ h))
not_below x (Some m) b h f = (m, refl, elim (cases_lt x m) [ inl l ↦ absurd (false≢true (sym f ∙ h.1 l)) | inr g ↦ g ])

pub not_some : (m : ℕ) → Some m ≡ None → ⊥
not_some m e = cc

pub below : (x : ℕ) (best : Option ℕ) (b : Bool) → IsBelow x best b → b ≡ true → (m : ℕ) → best ≡ Some m → x ≤ m
below x None b h t m e = absurd (not_some m (sym e))
below x (Some n) b h t m e = (let l : x < n = h.0 t in omega (arith, same_Some n m e))

-- the ends of a pair, whichever is the lesser
pub cost_of_pair : (D : List Costed) (e : Pair) (p r : ℕ) → e.lo ≡ min p r → e.hi ≡ max p r → cost D e.lo e.hi ≡ cost D p r
cost_of_pair D e p r lo hi = elim (cases_lt p r) [
  | inl h ↦ ap₂ (cost D) (let a : e.lo ≡ p = omega arith in a) (let b : e.hi ≡ r = omega arith in b)
  | inr h ↦ ap₂ (cost D) (let a : e.lo ≡ r = omega arith in a) (let b : e.hi ≡ p = omega arith in b) ∙ cost_turned D r p
]

pub takes_of_pair : (rows : List Row) (e : Pair) (p r : ℕ) → e.lo ≡ min p r → e.hi ≡ max p r → takes rows e.lo e.hi ≡ takes rows p r
takes_of_pair rows e p r lo hi = elim (cases_lt p r) [
  | inl h ↦ ap₂ (takes rows) (let a : e.lo ≡ p = omega arith in a) (let b : e.hi ≡ r = omega arith in b)
  | inr h ↦ ap₂ (takes rows) (let a : e.lo ≡ r = omega arith in a) (let b : e.hi ≡ p = omega arith in b) ∙ takes_turned rows r p
]

-- what is left of what is allowed
pub room_is : (S : List Point) (D : List Costed) (q : ℕ) (rows : List Row) (p r allowed given : ℕ) → allowed ≡ q * cost D p r + takes rows p r → given ≡ gives S rows p r → given ≤ allowed
    → IsRoomWith S D q rows p r (allowed - given)
room_is S D q rows p r allowed given a g le = omega (arith, ints, a, g)

-- a pair that has more than is allowed isn't a candidate
pub none_left : (S : List Point) (D : List Costed) (q : ℕ) (rows : List Row) (row : Row) (p r allowed given : ℕ) → IsValid S D q rows → IsRight S row → p < length S → r < length S
    → allowed ≡ q * cost D p r + takes rows p r → given ≡ gives S rows p r → allowed < given → ¬ IsCandidate S row p r
none_left S D q rows row p r allowed given valid right pn rn a g more cand = omega (arith, ints, a, g, candidate_allowed S D q rows row p r valid right pn rn cand)

-- a test that finds no count
pub not_counted : (S : List Point) (row : Row) (i j : ℕ) (b : Bool) → (IsTrue b ↔ Counts S row i j) → b ≡ false → counts S row i j ≡ false
not_counted S row i j b h e = same_from_decides (counts S row i j) b (counts_decides S row i j) (h.0, h.1) ∙ e

pub is_counted : (S : List Point) (row : Row) (i j : ℕ) (b : Bool) → (IsTrue b ↔ Counts S row i j) → b ≡ true → counts S row i j ≡ true
is_counted S row i j b h e = same_from_decides (counts S row i j) b (counts_decides S row i j) (h.0, h.1) ∙ e
