-- Membership in lists of pairs by recursion, and ascending lists: two of the same pairs are equal.
use Rattle.std.proofs.Common.{◌≡◌, ℕ, zero, suc, ◌<◌, Bool, true, List, [], ◌∷◌, ◌++◌, length, get_or, filter, ◌⊎◌, inl, inr, arith, sym, ◌∙◌, ap, subst, refl}
use Rattle.std.specs.List.{Contains}
use Rattle.std.proofs.lemmas.Bool.{cond_both}
use Rattle.std.proofs.lemmas.List.Kept.{AllPairs-cons}
use Rattle.plane.specs.declared.segment.Pair.{Pair}
use Rattle.partition_defs.specs.Ascending.{ComesFirst, IsAscending}
use Rattle.partition_defs.specs.Triangulation.{AreDistinct}

-- e is a member, by recursion
abbrev pub Has : Pair → List Pair → Type 0
Has e [] = ⊥
Has e (x ∷ xs) = (x ≡ e) ⊎ Has e xs

pub has_of : (xs : List Pair) (e : Pair) → Contains xs e → Has e xs
has_of [] e (k, h, at) = absurd (omega arith)
has_of (x ∷ xs) e (zero, h, at) = inl at
has_of (x ∷ xs) e (suc k, h, at) = inr (has_of xs e (k, omega arith, at))

pub contains_of : (xs : List Pair) (e : Pair) → Has e xs → Contains xs e
contains_of [] e h = absurd h
contains_of (x ∷ xs) e (inl h) = (0, omega arith, h)
contains_of (x ∷ xs) e (inr h) = let (k, l, at) = contains_of xs e h in (suc k, omega arith, at)

pub has_at : (xs : List Pair) (k : ℕ) (d : Pair) → k < length xs → Has (get_or xs k d) xs
has_at [] k d h = absurd (omega arith)
has_at (x ∷ xs) zero d h = inl refl
has_at (x ∷ xs) (suc k) d h = inr (has_at xs k d (omega arith))

pub has_filter : (p : Pair → Bool) (xs : List Pair) (e : Pair) → Has e (filter p xs) → Has e xs × (p e ≡ true)
has_filter p [] e h = absurd h
has_filter p (x ∷ xs) e h =
    cond_both (p x) (x ∷ filter p xs) (filter p xs) (λ l. Has e l → Has e (x ∷ xs) × (p e ≡ true))
    (λ t h. elim h [ inl k ↦ (inl k, subst (λ z. p z ≡ true) k t) | inr k ↦ (let r = has_filter p xs e k in (inr r.0, r.1)) ])
    (λ t h. (let r = has_filter p xs e h in (inr r.0, r.1)))
    h

pub filter_has : (p : Pair → Bool) (xs : List Pair) (e : Pair) → Has e xs → p e ≡ true → Has e (filter p xs)
filter_has p [] e h t = h
filter_has p (x ∷ xs) e (inl h) t = let f : p x ≡ true = ap p h ∙ t in rw f (inl h)
filter_has p (x ∷ xs) e (inr h) t = cond_both (p x) (x ∷ filter p xs) (filter p xs) (λ l. Has e l) (λ _. inr (filter_has p xs e h t)) (λ _. filter_has p xs e h t)

pub has_append : (xs ys : List Pair) (e : Pair) → Has e (xs ++ ys) → Has e xs ⊎ Has e ys
has_append [] ys e h = inr h
has_append (x ∷ xs) ys e (inl h) = inl (inl h)
has_append (x ∷ xs) ys e (inr h) = elim (has_append xs ys e h) [ inl k ↦ inl (inr k) | inr k ↦ inr k ]

pub append_has : (xs ys : List Pair) (e : Pair) → Has e xs ⊎ Has e ys → Has e (xs ++ ys)
append_has [] ys e (inl h) = absurd h
append_has [] ys e (inr h) = h
append_has (x ∷ xs) ys e (inl (inl h)) = inl h
append_has (x ∷ xs) ys e (inl (inr h)) = inr (append_has xs ys e (inl h))
append_has (x ∷ xs) ys e (inr h) = inr (append_has xs ys e (inr h))

-- ascending, by recursion
abbrev pub Rises : List Pair → Type 0
Rises [] = Unit {0}
Rises (x ∷ xs) = ((y : Pair) → Has y xs → ComesFirst x y) × Rises xs

pub ascending_of : (xs : List Pair) → Rises xs → IsAscending xs
ascending_of [] r = λ i j d ij h. absurd (omega arith)
ascending_of (x ∷ xs) r = AllPairs-cons ComesFirst x xs (λ k d h. r.0 (get_or xs k d) (has_at xs k d h)) (ascending_of xs r.1)

pub rises_of : (xs : List Pair) → IsAscending xs → Rises xs
rises_of [] a = tt
rises_of (x ∷ xs) a = (
  λ y h. (let (k, l, at) = contains_of xs y h in subst (λ z. ComesFirst x z) at (a 0 (suc k) y (omega arith) (omega arith))),
  rises_of xs (λ i j d ij h. a (suc i) (suc j) d (omega arith) (omega arith)),
)

pub rises_append : (xs ys : List Pair) → Rises xs → Rises ys → ((e f : Pair) → Has e xs → Has f ys → ComesFirst e f) → Rises (xs ++ ys)
rises_append [] ys r s h = s
rises_append (x ∷ xs) ys r s h = (
  λ y k. elim (has_append xs ys y k) [ inl a ↦ r.0 y a | inr a ↦ h x y (inl refl) a ],
  rises_append xs ys r.1 s (λ e f a b. h e f (inr a) b),
)

pub never_both : (e f : Pair) → ComesFirst e f → ComesFirst f e → ⊥
never_both e f (inl a) (inl b) = omega arith
never_both e f (inl a) (inr b) = omega (arith, b.0)
never_both e f (inr a) (inl b) = omega (arith, a.0)
never_both e f (inr a) (inr b) = omega (arith, a.1, b.1)

-- ascending lists of the same segments are equal
pub one_list : (xs ys : List Pair) → Rises xs → Rises ys → ((e : Pair) → Has e xs → Has e ys) → ((e : Pair) → Has e ys → Has e xs) → xs ≡ ys
one_list [] [] r s a b = refl
one_list [] (y ∷ ys) r s a b = absurd (b y (inl refl))
one_list (x ∷ xs) [] r s a b = absurd (a x (inl refl))
one_list (x ∷ xs) (y ∷ ys) r s a b =
    let heads : x ≡ y = first (a x (inl refl)) (b y (inl refl)) in
    let rest : xs ≡ ys = one_list xs ys r.1 s.1 (λ e h. later x y xs ys r heads e h (a e (inr h))) (λ e h. later y x ys xs s (sym heads) e h (b e (inr h))) in
    ap (λ (z : Pair). z ∷ xs) heads ∙ ap (λ (zs : List Pair). y ∷ zs) rest
  where
    first : (y ≡ x) ⊎ Has x ys → (x ≡ y) ⊎ Has y xs → x ≡ y
    first (inl h) k = sym h
    first (inr h) (inl k) = k
    first (inr h) (inr k) = absurd (never_both x y (r.0 y k) (s.0 x h))

    later : (x y : Pair) (xs ys : List Pair) → Rises (x ∷ xs) → x ≡ y → (e : Pair) → Has e xs → (y ≡ e) ⊎ Has e ys → Has e ys
    later x y xs ys r same e h (inl k) = absurd (let o : ComesFirst x x = subst (λ z. ComesFirst x z) (sym (same ∙ k)) (r.0 e h) in never_both x x o o)
    later x y xs ys r same e h (inr k) = k

-- a list that ascends has nothing twice
pub ascending_distinct : (K : List Pair) → IsAscending K → AreDistinct K
ascending_distinct K a i j d ij hj same =
    let y = get_or K j d in
    let twice : ComesFirst y y = subst (λ z. ComesFirst z y) same (a i j d ij hj) in never_both y y twice twice
