-- How many border pairs there are: as many as the two chains have sides.
use Rattle.std.proofs.Common.{◌≡◌, ◌≢◌, ℕ, zero, suc, ◌<◌, ◌≤◌, ◌⊎◌, inl, inr, min, max, List, [], ◌∷◌, ◌++◌, length, get_or, map, Bool, true, false, eqb, sym, ◌∙◌, ap, ap₂, refl, subst, subst₂, arith}
use Rattle.std.specs.Prelude.{◌&&◌}
use Rattle.std.specs.List.{All, AllPairs, Any, Contains, IsDistinct}
use Rattle.std.specs.Cmp.{IsEquivalence}
use Rattle.std.specs.Set.{is_member}
use Rattle.std.proofs.lemmas.Cmp.{and_equiv, on_equiv, nat_eq_equiv}
use Rattle.std.proofs.lemmas.Bool.Decides.{nat_tests}
use Rattle.std.proofs.lemmas.Bool.{cases_order}
use Rattle.std.proofs.lemmas.List.{get_or-map, length-map}
use Rattle.std.proofs.lemmas.List.Folds.{list_any_at, Any-from_list_any}
use Rattle.std.proofs.lemmas.List.Elements.{All-cons, All-nil, All-append}
use Rattle.std.proofs.lemmas.List.Kept.{AllPairs-cons}
use Rattle.std.proofs.lemmas.Map.Keys.{IsDistinct-from_apart}
use Rattle.std.proofs.lemmas.Map.Made.{length-le_from_is_member}
use Rattle.plane.specs.declared.segment.Pair.{Pair, ordered-type}
use Rattle.plane.proofs.laws.Pairs.{pair_same, made}
use Rattle.partition_defs.specs.Triangulation.{AreDistinct}
use Rattle.triangulate.specs.Sides.{UpTo}
use Rattle.triangulate.specs.Front.{Links}
use Rattle.triangulate.proofs.Field.{Setting, up_to_before}
use Rattle.triangulate.proofs.Moves.{link_below}

-- two numbers, the smaller first, as a pair's ends
abbrev pub Key : Type 0
Key = ℕ × ℕ

unfoldable pub key : (i j : ℕ) → Key
key i j = (min i j, max i j)

abbrev pub ends : Pair → Key
ends e = (e.lo, e.hi)

abbrev same : (x y : Key) → Bool
same x y = eqb x.0 y.0 && eqb x.1 y.1

same_equiv : IsEquivalence same
same_equiv = and_equiv (on_equiv (λ (x : Key). x.0) nat_eq_equiv) (on_equiv (λ (x : Key). x.1) nat_eq_equiv)

both_true : (a b c d : ℕ) → a ≡ c → b ≡ d → (eqb a c && eqb b d) ≡ true
both_true a b c d e f = grind (arith, nat_tests)

first_of_true : (a b c d : ℕ) → (eqb a c && eqb b d) ≡ true → a ≡ c
first_of_true a b c d e = grind (arith, nat_tests)

second_of_true : (a b c d : ℕ) → (eqb a c && eqb b d) ≡ true → b ≡ d
second_of_true a b c d e = grind (arith, nat_tests)

not_true : (b : Bool) → ¬ b ≡ true → b ≡ false
not_true true h = absurd (h refl)
not_true false h = refl

-- the sides of a chain
unfoldable pub chain_keys : (t : ℕ) → List ℕ → List Key
chain_keys t [] = []
chain_keys t (s ∷ r) = key s t ∷ chain_keys s r

pub keys_count : (t : ℕ) (r : List ℕ) → length (chain_keys t r) ≡ length r
unfolding chain_keys
keys_count t [] = refl
keys_count t (s ∷ r) = let h : length (chain_keys s r) ≡ length r = keys_count s r in omega arith

pub all_keys : (P : Key → Type 0) (t : ℕ) (r : List ℕ) → ((p q : ℕ) → Links t r p q → P (key p q)) → All P (chain_keys t r)
unfolding chain_keys
all_keys P t [] f = All-nil P
all_keys P t (s ∷ r) f = All-cons P (key s t) (chain_keys s r) (f s t (inl (refl, refl))) (all_keys P s r (λ p q k. f p q (inr k)))

zero_in : (n : ℕ) → zero < suc n
zero_in n = omega arith

later_in : (k n : ℕ) → k < n → suc k < suc n
later_in k n h = omega arith

pub contains_key : (t : ℕ) (r : List ℕ) (p q : ℕ) → Links t r p q → Contains (chain_keys t r) (key p q)
unfolding chain_keys
contains_key t [] p q k = elim k [ ]
contains_key t (s ∷ r) p q (inl e) = subst₂ (λ x y. Contains (key s t ∷ chain_keys s r) (key x y)) (sym e.0) (sym e.1) (zero, zero_in (length (chain_keys s r)), refl)
contains_key t (s ∷ r) p q (inr k) = (let c : Contains (chain_keys s r) (key p q) = contains_key s r p q k in (suc c.0, later_in c.0 (length (chain_keys s r)) c.1, c.2))

-- two keys that are equal have the same numbers, in one order or the other
pub key_cases : (s t p q : ℕ) → key s t ≡ key p q → ((s ≡ p) × (t ≡ q)) ⊎ ((s ≡ q) × (t ≡ p))
unfolding key
key_cases s t p q e =
    let lo : min s t ≡ min p q = ap (λ (x : Key). x.0) e in
    let hi : max s t ≡ max p q = ap (λ (x : Key). x.1) e in
    elim (cases_order s t) [
      | inl f ↦ inl (omega arith, omega arith)
      | inr u ↦ elim u [
        | inl f ↦ elim (cases_order p q) [ inl g ↦ inl (omega arith, omega arith) | inr v ↦ elim v [ inl g ↦ inl (omega arith, omega arith) | inr g ↦ inr (omega arith, omega arith) ] ]
        | inr f ↦ elim (cases_order p q) [ inl g ↦ inl (omega arith, omega arith) | inr v ↦ elim v [ inl g ↦ inr (omega arith, omega arith) | inr g ↦ inl (omega arith, omega arith) ] ]
      ]
    ]

-- the side s-t is none of those before s
head_apart : (E : Setting) (s t : ℕ) (r : List ℕ) → ((a b : ℕ) → Links t (s ∷ r) a b → E.B a b) → (p q : ℕ) → Links s r p q → key s t ≢ key p q
head_apart E s t r rising p q k e =
    let hst : E.B s t = rising s t (inl (refl, refl)) in
    let hpq : E.B p q = rising p q (inr k) in
    let hqs : UpTo E.B q s = link_below E s r (λ a b l. rising a b (inr l)) p q k in
    let hqt : E.B q t = up_to_before E q s t hqs hst in
    elim (key_cases s t p q e) [
      | inl f ↦ E.irrefl t (subst (λ x. E.B x t) (sym f.1) hqt)
      | inr f ↦ E.irrefl t (subst (λ x. E.B x t) (sym f.1) (E.trans p q t hpq hqt))
    ]

pub keys_distinct : (E : Setting) (t : ℕ) (r : List ℕ) (rest : List Key) → ((a b : ℕ) → Links t r a b → E.B a b) → AllPairs (λ (x y : Key). x ≢ y) rest
    → ((p q : ℕ) → Links t r p q → All (λ (y : Key). key p q ≢ y) rest) → AllPairs (λ (x y : Key). x ≢ y) (chain_keys t r ++ rest)
unfolding chain_keys
keys_distinct E t [] rest rising d apart = d
keys_distinct E t (s ∷ r) rest rising d apart =
    AllPairs-cons (λ (x y : Key). x ≢ y) (key s t) (chain_keys s r ++ rest)
    (All-append (λ (y : Key). key s t ≢ y) (chain_keys s r) rest
    (all_keys (λ (y : Key). key s t ≢ y) s r (λ p q k. head_apart E s t r rising p q k)) (apart s t (inl (refl, refl))))
    (keys_distinct E s r rest (λ a b k. rising a b (inr k)) d (λ p q k. apart p q (inr k)))

distinct_from : (xs : List Key) → AllPairs (λ (x y : Key). x ≢ y) xs → IsDistinct same xs
distinct_from xs d = IsDistinct-from_apart same xs
    (λ i j x hij hj. not_true (same (get_or xs i x) (get_or xs j x))
    (λ e. d i j x hij hj (ap₂ (λ (a b : ℕ). (let u : Key = (a, b) in u))
    (first_of_true (get_or xs i x).0 (get_or xs i x).1 (get_or xs j x).0 (get_or xs j x).1 e)
    (second_of_true (get_or xs i x).0 (get_or xs i x).1 (get_or xs j x).0 (get_or xs j x).1 e))))

pub pairs_distinct : (B : List Pair) → AreDistinct B → AllPairs (λ (x y : Key). x ≢ y) (map ends B)
pairs_distinct B d i j x hij hj e =
    let some : Pair = made 0 1 (zero_in 0) in
    let hj2 : j < length B = omega (arith, length-map B ends) in
    let hi2 : i < length B = omega arith in
    let f : ends (get_or B i some) ≡ ends (get_or B j some) = sym (get_or-map ends B i some x hi2) ∙ e ∙ get_or-map ends B j some x hj2 in
    d i j some hij hj2 (pair_same (get_or B i some) (get_or B j some) (ap (λ (u : Key). u.0) f) (ap (λ (u : Key). u.1) f))

member_of : (xs : List Key) (q x : Key) → Contains xs x → q ≡ x → is_member same xs q ≡ true
member_of xs q x c e = list_any_at (same q) xs c.0 x c.1
    (ap (same q) c.2 ∙ both_true q.0 q.1 x.0 x.1 (ap (λ (u : Key). u.0) e) (ap (λ (u : Key). u.1) e))

-- a member is one of the list
found : (xs : List Key) (q : Key) → is_member same xs q ≡ true → Contains xs q
found xs q h =
    let a : Any (λ (x : Key). same q x ≡ true) xs = Any-from_list_any (same q) xs h in
    let e : q ≡ a.1 = ap₂ (λ (x y : ℕ). (let u : Key = (x, y) in u)) (first_of_true q.0 q.1 a.1.0 a.1.1 a.4) (second_of_true q.0 q.1 a.1.0 a.1.1 a.4) in
    subst (λ x. Contains xs x) (sym e) (a.0, a.2, a.3)

pub same_length : (xs ys : List Key) → AllPairs (λ (x y : Key). x ≢ y) xs → AllPairs (λ (x y : Key). x ≢ y) ys
    → ((q : Key) → Contains xs q → Contains ys q) → ((q : Key) → Contains ys q → Contains xs q) → length xs ≡ length ys
same_length xs ys dx dy f g =
    let h : length xs ≤ length ys = length-le_from_is_member same_equiv xs ys (distinct_from xs dx) (λ q m. member_of ys q q (f q (found xs q m)) refl) in
    let k : length ys ≤ length xs = length-le_from_is_member same_equiv ys xs (distinct_from ys dy) (λ q m. member_of xs q q (g q (found ys q m)) refl) in
    omega arith
