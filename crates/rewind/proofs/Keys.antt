-- The keys of a tree of pairs are an ascending list: what is put in and taken out of the one is of the other.
use Rattle.std.proofs.Common.{◌≡◌, ◌≢◌, ℕ, suc, ◌<◌, Bool, true, false, cond, List, [], ◌∷◌, ◌++◌, take, drop, length, get_or, ◌⊎◌, inl, inr, Ordering, nat_cmp, sym, ◌∙◌, ap, subst, refl}
use Rattle.std.specs.declared.cmp.Ordering.TheVariants.{Less, Equal, Greater}
use Rattle.std.specs.Cmp.{nat_cmp_is}
use Rattle.std.specs.Ordering.{ordering_then, match_ordering}
use Rattle.std.specs.List.{AllByRecursion}
use Rattle.std.specs.List.Sorted.{IsStrictlySortedBy}
use Rattle.std.specs.BTreeSet.{insert_key}
use Rattle.std.specs.BTreeMap.{is_at}
use Rattle.std.specs.Set.{remove_key}
use Rattle.std.proofs.lemmas.List.{take-append-drop}
use Rattle.std.proofs.Math.Seq.{drop-cons}
use Rattle.std.proofs.lemmas.Map.Keys.{sorted_head, sorted_tail}
use Rattle.plane.specs.declared.segment.Pair.{Pair}
use Rattle.partition_defs.specs.Ascending.{ComesFirst, IsAscending}
use Rattle.partition_defs.specs.Sets.{without, with_one}
use Rattle.partition_defs.proofs.laws.Has.{Has, Rises, append_has, ascending_of, rises_of, never_both}
use Rattle.partition_defs.proofs.laws.Sets.{one_way, first_trans, one_set, has_with, with_has, with_own, ascending_with, has_without, without_has, ascending_without}

-- the order of pairs in a tree
abbrev pub pair_cmp : (e f : Pair) → Ordering
pair_cmp e f = ordering_then (nat_cmp e.lo f.lo) (nat_cmp e.hi f.hi)

first_less : (e f : Pair) → ComesFirst e f → pair_cmp e f ≡ Less
first_less e f (inl h) = ap (λ (o : Ordering). ordering_then o (nat_cmp e.hi f.hi)) (sym (nat_cmp_is e.lo f.lo Less h))
first_less e f (inr (level, h)) =
    ap (λ (o : Ordering). ordering_then o (nat_cmp e.hi f.hi)) (sym (nat_cmp_is e.lo f.lo Equal level)) ∙ sym (nat_cmp_is e.hi f.hi Less h)

first_greater : (e f : Pair) → ComesFirst f e → pair_cmp e f ≡ Greater
first_greater e f (inl h) = ap (λ (o : Ordering). ordering_then o (nat_cmp e.hi f.hi)) (sym (nat_cmp_is e.lo f.lo Greater h))
first_greater e f (inr (level, h)) =
    ap (λ (o : Ordering). ordering_then o (nat_cmp e.hi f.hi)) (sym (nat_cmp_is e.lo f.lo Equal (sym level))) ∙ sym (nat_cmp_is e.hi f.hi Greater h)

own_equal : (e : Pair) → pair_cmp e e ≡ Equal
own_equal e =
    ap (λ (o : Ordering). ordering_then o (nat_cmp e.hi e.hi)) (sym (nat_cmp_is e.lo e.lo Equal refl)) ∙ sym (nat_cmp_is e.hi e.hi Equal refl)

same_equal : (e f : Pair) → f ≡ e → pair_cmp e f ≡ Equal
same_equal e f same = ap (pair_cmp e) same ∙ own_equal e

less_first : (e f : Pair) → pair_cmp e f ≡ Less → ComesFirst e f
less_first e f h = elim (one_way e f) [
  | inl g ↦ absurd (let k = first_greater e f g in let l : Less ≡ Greater = sym h ∙ k in cc)
  | inr rest ↦ elim rest [
    | inl same ↦ absurd (let k = same_equal e f same in let l : Less ≡ Equal = sym h ∙ k in cc)
    | inr g ↦ g
  ]
]

-- one before the other is the other's before, an equal one stands there already
never_own : (e : Pair) → ComesFirst e e → ⊥
never_own e h = never_both e e h h

inserted : Ordering → Pair → Pair → List Pair → List Pair
inserted o e x xs = match_ordering o (e ∷ x ∷ xs) (x ∷ xs) (x ∷ insert_key pair_cmp xs e)

has_inserted : (e f : Pair) (K : List Pair) → Has f (insert_key pair_cmp K e) → Has f K ⊎ (f ≡ e)
has_inserted e f [] (inl h) = inr (sym h)
has_inserted e f [] (inr h) = absurd h
has_inserted e f (x ∷ xs) h =
    let G : Ordering → Type 0 = λ o. Has f (match_ordering o (e ∷ x ∷ xs) (x ∷ xs) (x ∷ insert_key pair_cmp xs e)) in
    elim (one_way e x) [
      | inl g ↦ (let k : (x ≡ f) ⊎ Has f (insert_key pair_cmp xs e) = subst G (first_greater e x g) h in elim k [
        | inl same ↦ inl (inl same)
        | inr m ↦ elim (has_inserted e f xs m) [ inl t ↦ inl (inr t) | inr t ↦ inr t ]
      ])
      | inr rest ↦ elim rest [
        | inl same ↦ inl (let k : Has f (x ∷ xs) = subst G (same_equal e x same) h in k)
        | inr g ↦ (let k : (e ≡ f) ⊎ Has f (x ∷ xs) = subst G (first_less e x g) h in elim k [ inl same ↦ inr (sym same) | inr t ↦ inl t ])
      ]
    ]

inserted_has : (e f : Pair) (K : List Pair) → Has f K ⊎ (f ≡ e) → Has f (insert_key pair_cmp K e)
inserted_has e f [] (inl h) = absurd h
inserted_has e f [] (inr same) = inl (sym same)
inserted_has e f (x ∷ xs) h =
    let G : Ordering → Type 0 = λ o. Has f (match_ordering o (e ∷ x ∷ xs) (x ∷ xs) (x ∷ insert_key pair_cmp xs e)) in
    elim (one_way e x) [
      | inl g ↦ subst G (sym (first_greater e x g)) (elim h [
        | inl k ↦ elim k [ inl same ↦ inl same | inr t ↦ inr (inserted_has e f xs (inl t)) ]
        | inr same ↦ inr (inserted_has e f xs (inr same))
      ])
      | inr rest ↦ elim rest [
        | inl level ↦ subst G (sym (same_equal e x level)) (elim h [ inl k ↦ k | inr same ↦ inl (level ∙ sym same) ])
        | inr g ↦ subst G (sym (first_less e x g)) (elim h [ inl k ↦ inr k | inr same ↦ inl (sym same) ])
      ]
    ]

rises_inserted : (e : Pair) (K : List Pair) → Rises K → Rises (insert_key pair_cmp K e)
rises_inserted e [] r = (λ y h. absurd h, tt)
rises_inserted e (x ∷ xs) r =
    let G : Ordering → Type 0 = λ o. Rises (match_ordering o (e ∷ x ∷ xs) (x ∷ xs) (x ∷ insert_key pair_cmp xs e)) in
    elim (one_way e x) [
      | inl g ↦ subst G (sym (first_greater e x g)) (
        λ y h. elim (has_inserted e y xs h) [ inl k ↦ r.0 y k | inr same ↦ subst (λ (z : Pair). ComesFirst x z) (sym same) g ],
        rises_inserted e xs r.1,
      )
      | inr rest ↦ elim rest [
        | inl level ↦ subst G (sym (same_equal e x level)) r
        | inr g ↦ subst G (sym (first_less e x g)) (
          λ y h. elim h [ inl same ↦ subst (λ (z : Pair). ComesFirst e z) same g | inr k ↦ first_trans e x y g (r.0 y k) ],
          r,
        )
      ]
    ]

-- a key put in
pub key_put : (e : Pair) (K : List Pair) → IsAscending K → insert_key pair_cmp K e ≡ with_one e K
key_put e K a =
    one_set (insert_key pair_cmp K e) (with_one e K) (ascending_of (insert_key pair_cmp K e) (rises_inserted e K (rises_of K a))) (ascending_with e K a)
    (λ f h. elim (has_inserted e f K h) [
      | inl k ↦ with_has e f K k
      | inr same ↦ subst (λ (z : Pair). Has z (with_one e K)) (sym same) (with_own e K)
    ])
    (λ f h. inserted_has e f K (has_with e f K h))

other_key : (e x : Pair) → x ≢ e → is_at (pair_cmp e) x ≡ false
other_key e x ne = elim (one_way e x) [
  | inl g ↦ (let k = first_greater e x g in rw k refl)
  | inr rest ↦ elim rest [
    | inl same ↦ absurd (ne same)
    | inr g ↦ (let k = first_less e x g in rw k refl)
  ]
]

own_key : (e x : Pair) → x ≡ e → is_at (pair_cmp e) x ≡ true
own_key e x same = let k = same_equal e x same in rw k refl

-- a pair is another or the same
whether : (e x : Pair) → (x ≡ e) ⊎ (x ≢ e)
whether e x = elim (one_way e x) [
  | inl g ↦ inr (λ same. never_own e (subst (λ (z : Pair). ComesFirst z e) same g))
  | inr rest ↦ elim rest [
    | inl same ↦ inl same
    | inr g ↦ inr (λ same. never_own e (subst (λ (z : Pair). ComesFirst e z) same g))
  ]
]

has_removed : (e f : Pair) (K : List Pair) → Rises K → Has f (remove_key (is_at (pair_cmp e)) K) → Has f K × (f ≢ e)
has_removed e f [] r h = absurd h
has_removed e f (x ∷ xs) r h =
    let G : Bool → Type 0 = λ b. Has f (cond b xs (x ∷ remove_key (is_at (pair_cmp e)) xs)) in
    elim (whether e x) [
      | inl same ↦ (let k : Has f xs = subst G (own_key e x same) h in (
        inr k,
        λ own. never_own e (subst (λ (z : Pair). ComesFirst z e) same (subst (λ (z : Pair). ComesFirst x z) own (r.0 f k))),
      ))
      | inr ne ↦ (let k : (x ≡ f) ⊎ Has f (remove_key (is_at (pair_cmp e)) xs) = subst G (other_key e x ne) h in elim k [
        | inl t ↦ (inl t, λ own. ne (t ∙ own))
        | inr t ↦ (let m = has_removed e f xs r.1 t in (inr m.0, m.1))
      ])
    ]

removed_has : (e f : Pair) (K : List Pair) → Has f K → f ≢ e → Has f (remove_key (is_at (pair_cmp e)) K)
removed_has e f [] h other = absurd h
removed_has e f (x ∷ xs) h other =
    let G : Bool → Type 0 = λ b. Has f (cond b xs (x ∷ remove_key (is_at (pair_cmp e)) xs)) in
    elim (whether e x) [
      | inl same ↦ subst G (sym (own_key e x same)) (elim h [ inl t ↦ absurd (other (sym t ∙ same)) | inr t ↦ t ])
      | inr ne ↦ subst G (sym (other_key e x ne)) (elim h [ inl t ↦ inl t | inr t ↦ inr (removed_has e f xs t other) ])
    ]

rises_removed : (e : Pair) (K : List Pair) → Rises K → Rises (remove_key (is_at (pair_cmp e)) K)
rises_removed e [] r = tt
rises_removed e (x ∷ xs) r =
    let G : Bool → Type 0 = λ b. Rises (cond b xs (x ∷ remove_key (is_at (pair_cmp e)) xs)) in
    elim (whether e x) [
      | inl same ↦ subst G (sym (own_key e x same)) r.1
      | inr ne ↦ subst G (sym (other_key e x ne)) (λ y h. r.0 y (has_removed e y xs r.1 h).0, rises_removed e xs r.1)
    ]

-- a key taken out
pub key_taken : (e : Pair) (K : List Pair) → IsAscending K → remove_key (is_at (pair_cmp e)) K ≡ without e K
key_taken e K a =
    let r = rises_of K a in
    one_set (remove_key (is_at (pair_cmp e)) K) (without e K) (ascending_of (remove_key (is_at (pair_cmp e)) K) (rises_removed e K r)) (ascending_without e K a)
    (λ f h. (let m = has_removed e f K r h in without_has e f K m.0 m.1))
    (λ f h. (let m = has_without e f K h in removed_has e f K m.0 m.1))

all_has : (P : Pair → Type 0) (xs : List Pair) (y : Pair) → AllByRecursion P xs → Has y xs → P y
all_has P [] y h k = absurd k
all_has P (x ∷ xs) y h (inl same) = subst P same h.0
all_has P (x ∷ xs) y h (inr k) = all_has P xs y h.1 k

rises_sorted : (K : List Pair) → IsStrictlySortedBy pair_cmp K → Rises K
rises_sorted [] h = tt
rises_sorted (x ∷ xs) h = (
  λ y k. less_first x y (all_has (λ (z : Pair). pair_cmp x z ≡ Less) xs y (sorted_head pair_cmp x xs h) k),
  rises_sorted xs (sorted_tail pair_cmp x xs h),
)

-- the keys of a tree ascend
pub keys_ascend : (K : List Pair) → IsStrictlySortedBy pair_cmp K → IsAscending K
keys_ascend K h = ascending_of K (rises_sorted K h)

before_next : (xs ys : List Pair) (y z : Pair) → Rises (xs ++ y ∷ ys) → Has z xs → ComesFirst z y
before_next [] ys y z r h = absurd h
before_next (x ∷ xs) ys y z r (inl same) = subst (λ (w : Pair). ComesFirst w y) same (r.0 y (append_has xs (y ∷ ys) y (inr (inl refl))))
before_next (x ∷ xs) ys y z r (inr h) = before_next xs ys y z r.1 h

put_last : (e : Pair) (K : List Pair) → ((z : Pair) → Has z K → ComesFirst z e) → insert_key pair_cmp K e ≡ K ++ e ∷ []
put_last e [] h = refl
put_last e (x ∷ xs) h =
    let g = first_greater e x (h x (inl refl)) in rw g (ap (λ (l : List Pair). x ∷ l) (put_last e xs (λ z k. h z (inr k))))

-- the next pair of an ascending list comes to the end
pub put_next : (K : List Pair) (i : ℕ) (e : Pair) → IsAscending K → i < length K → e ≡ get_or K i e → insert_key pair_cmp (take i K) e ≡ take i K ++ e ∷ []
put_next K i e a h at =
    let whole : take i K ++ e ∷ drop (suc i) K ≡ K =
    ap (λ (x : Pair). take i K ++ x ∷ drop (suc i) K) at ∙ ap (λ (l : List Pair). take i K ++ l) (sym (drop-cons K i e h)) ∙ take-append-drop i K in
    let r : Rises (take i K ++ e ∷ drop (suc i) K) = subst Rises (sym whole) (rises_of K a) in
    put_last e (take i K) (λ z k. before_next (take i K) (drop (suc i) K) e z r k)
