-- What a set of pairs has after one was put in or taken out.
use Rattle.std.proofs.Common.{◌≡◌, ◌≢◌, ℕ, Bool, true, false, ◌&&◌, not, nat_eq, nat_lt, List, ◌∷◌, ◌++◌, filter, ◌⊎◌, inl, inr, arith, sym, ap, subst, refl}
use Rattle.std.specs.Bool.{Decides}
use Rattle.std.specs.List.{Contains}
use Rattle.std.proofs.lemmas.Bool.{false≢true, cases_lt, not-true}
use Rattle.std.proofs.lemmas.Bool.Decides.{Decides-eqb, Decides-ltb, Decides-and, Decides-or, Decides-like, not_from_Decides}
use Rattle.std.proofs.lemmas.List.Kept.{AllPairs-filter}
use Rattle.plane.specs.declared.segment.Pair.{Pair}
use Rattle.plane.proofs.laws.Pairs.{pair_same}
use Rattle.partition_defs.specs.Partition.{HasEnds, Joins}
use Rattle.partition_defs.specs.Ascending.{ComesFirst, IsAscending}
use Rattle.partition_defs.specs.Sets.{is_same, precedes, without, with_one}
use Rattle.partition_defs.proofs.laws.Has.{Has, has_of, contains_of, has_filter, filter_has, has_append, append_has, ascending_of, rises_of, rises_append, one_list}
use Rattle.partition_defs.proofs.laws.Joined.{joined, joins_of, one_pair}

pub Decides-same : (e f : Pair) → Decides (is_same e f) (e ≡ f)
Decides-same e f =
    let d = Decides-and (nat_eq e.lo f.lo) (nat_eq e.hi f.hi) (Decides-eqb e.lo f.lo) (Decides-eqb e.hi f.hi) in
    Decides-like (is_same e f) (λ h. pair_same e f h.0 h.1) (λ h. (ap (λ (p : Pair). p.lo) h, ap (λ (p : Pair). p.hi) h)) d

pub Decides-precedes : (e f : Pair) → Decides (precedes e f) (ComesFirst e f)
Decides-precedes e f =
    Decides-or (nat_lt e.lo f.lo) (nat_eq e.lo f.lo && nat_lt e.hi f.hi) (Decides-ltb e.lo f.lo)
    (Decides-and (nat_eq e.lo f.lo) (nat_lt e.hi f.hi) (Decides-eqb e.lo f.lo) (Decides-ltb e.hi f.hi))

-- of two segments one comes first, or they are one
pub one_way : (e f : Pair) → ComesFirst f e ⊎ ((f ≡ e) ⊎ ComesFirst e f)
one_way e f = elim (cases_lt f.lo e.lo) [
  | inl h ↦ inl (inl h)
  | inr h ↦ elim (cases_lt e.lo f.lo) [
    | inl g ↦ inr (inr (inl g))
    | inr g ↦ elim (cases_lt f.hi e.hi) [
      | inl k ↦ inl (inr (omega arith, k))
      | inr k ↦ elim (cases_lt e.hi f.hi) [
        | inl l ↦ inr (inr (inr (omega arith, l)))
        | inr l ↦ inr (inl (pair_same f e (omega arith) (omega arith)))
      ]
    ]
  ]
]

true_not : (b : Bool) → ¬ (b ≡ true) → not b ≡ true
true_not true h = absurd (h refl)
true_not false h = refl

pub has_without : (e f : Pair) (K : List Pair) → Has f (without e K) → Has f K × (f ≢ e)
unfolding without
has_without e f K h =
    let r = has_filter (λ g. not (is_same g e)) K f h in
    (r.0, not_from_Decides (is_same f e) (Decides-same f e) (not-true (is_same f e) r.1))

pub without_has : (e f : Pair) (K : List Pair) → Has f K → f ≢ e → Has f (without e K)
unfolding without
without_has e f K h ne = filter_has (λ g. not (is_same g e)) K f h (true_not (is_same f e) (λ t. ne ((Decides-same f e).0 t)))

pub has_with : (e f : Pair) (K : List Pair) → Has f (with_one e K) → Has f K ⊎ (f ≡ e)
unfolding with_one
has_with e f K h = elim (has_append (filter (λ g. precedes g e) K) (e ∷ filter (λ g. precedes e g) K) f h) [
  | inl k ↦ inl (has_filter (λ g. precedes g e) K f k).0
  | inr k ↦ elim k [
    | inl same ↦ inr (sym same)
    | inr l ↦ inl (has_filter (λ g. precedes e g) K f l).0
  ]
]

pub with_own : (e : Pair) (K : List Pair) → Has e (with_one e K)
unfolding with_one
with_own e K = append_has (filter (λ g. precedes g e) K) (e ∷ filter (λ g. precedes e g) K) e (inr (inl refl))

pub with_has : (e f : Pair) (K : List Pair) → Has f K → Has f (with_one e K)
unfolding with_one
with_has e f K h = append_has (filter (λ g. precedes g e) K) (e ∷ filter (λ g. precedes e g) K) f (elim (one_way e f) [
  | inl first ↦ inl (filter_has (λ g. precedes g e) K f h ((Decides-precedes f e).1 first))
  | inr rest ↦ elim rest [
    | inl same ↦ inr (inl (sym same))
    | inr later ↦ inr (inr (filter_has (λ g. precedes e g) K f h ((Decides-precedes e f).1 later)))
  ]
])

pub ascending_without : (e : Pair) (K : List Pair) → IsAscending K → IsAscending (without e K)
unfolding without
ascending_without e K a = AllPairs-filter ComesFirst (λ g. not (is_same g e)) K a

pub first_trans : (a b c : Pair) → ComesFirst a b → ComesFirst b c → ComesFirst a c
first_trans a b c (inl h) (inl k) = inl (omega arith)
first_trans a b c (inl h) (inr k) = inl (omega (arith, k.0))
first_trans a b c (inr h) (inl k) = inl (omega (arith, h.0))
first_trans a b c (inr h) (inr k) = inr (omega (arith, h.0, k.0), omega (arith, h.1, k.1))

pub ascending_with : (e : Pair) (K : List Pair) → IsAscending K → IsAscending (with_one e K)
unfolding with_one
ascending_with e K a =
    let low = filter (λ g. precedes g e) K in
    let high = filter (λ g. precedes e g) K in
    let before : (f : Pair) → Has f low → ComesFirst f e = λ f h. (Decides-precedes f e).0 (has_filter (λ g. precedes g e) K f h).1 in
    let behind : (f : Pair) → Has f high → ComesFirst e f = λ f h. (Decides-precedes e f).0 (has_filter (λ g. precedes e g) K f h).1 in
    ascending_of (low ++ e ∷ high) (rises_append low (e ∷ high)
    (rises_of low (AllPairs-filter ComesFirst (λ g. precedes g e) K a))
    (behind, rises_of high (AllPairs-filter ComesFirst (λ g. precedes e g) K a))
    (λ f g h k. elim k [ inl same ↦ subst (λ (z : Pair). ComesFirst f z) same (before f h) | inr l ↦ first_trans f e g (before f h) (behind g l) ]))

-- ascending lists of the same segments are equal
pub one_set : (K L : List Pair) → IsAscending K → IsAscending L → ((e : Pair) → Has e K → Has e L) → ((e : Pair) → Has e L → Has e K) → K ≡ L
one_set K L a b f g = one_list K L (rises_of K a) (rises_of L b) f g

-- a segment put in and taken out again
pub without_with : (e : Pair) (K : List Pair) → IsAscending K → ¬ Has e K → without e (with_one e K) ≡ K
without_with e K a new =
    one_set (without e (with_one e K)) K (ascending_without e (with_one e K) (ascending_with e K a)) a
    (λ f h. (let r = has_without e f (with_one e K) h in elim (has_with e f K r.0) [ inl k ↦ k | inr same ↦ absurd (r.1 same) ]))
    (λ f h. without_has e f (with_one e K) (with_has e f K h) (λ same. new (subst (λ (z : Pair). Has z K) same h)))

-- a segment taken out and put in again
pub with_without : (e : Pair) (K : List Pair) → IsAscending K → Has e K → with_one e (without e K) ≡ K
with_without e K a there =
    one_set (with_one e (without e K)) K (ascending_with e (without e K) (ascending_without e K a)) a
    (λ f h. elim (has_with e f (without e K) h) [ inl k ↦ (has_without e f K k).0 | inr same ↦ subst (λ (z : Pair). Has z K) (sym same) there ])
    (λ f h. elim (whether f) [
      | inl same ↦ subst (λ (z : Pair). Has z (with_one e (without e K))) (sym same) (with_own e (without e K))
      | inr ne ↦ with_has e f (without e K) (without_has e f K h ne)
    ])
  where
    never : (f : Pair) → ComesFirst f f → ⊥
    never f (inl h) = omega arith
    never f (inr h) = omega (arith, h.1)

    whether : (f : Pair) → (f ≡ e) ⊎ (f ≢ e)
    whether f = elim (one_way e f) [
      | inl h ↦ inr (λ same. never e (subst (λ (z : Pair). ComesFirst z e) same h))
      | inr rest ↦ elim rest [ inl same ↦ inl same | inr h ↦ inr (λ same. never e (subst (λ (z : Pair). ComesFirst e z) same h)) ]
    ]

pub same_pairs : (e f : Pair) → ((is_same e f ≡ true) × (e ≡ f)) ⊎ ((is_same e f ≡ false) × (e ≢ f))
same_pairs e f = tell (is_same e f) (Decides-same e f)
  where
    tell : (b : Bool) → Decides b (e ≡ f) → ((b ≡ true) × (e ≡ f)) ⊎ ((b ≡ false) × (e ≢ f))
    tell true d = inl (refl, d.0 refl)
    tell false d = inr (refl, λ h. false≢true (d.1 h))

-- over Contains, which definitions use
pub contains_without : (e f : Pair) (K : List Pair) → Contains (without e K) f → Contains K f × (f ≢ e)
contains_without e f K h = let r = has_without e f K (has_of (without e K) f h) in (contains_of K f r.0, r.1)

pub without_contains : (e f : Pair) (K : List Pair) → Contains K f → f ≢ e → Contains (without e K) f
without_contains e f K h ne = contains_of (without e K) f (without_has e f K (has_of K f h) ne)

pub contains_with : (e f : Pair) (K : List Pair) → Contains (with_one e K) f → Contains K f ⊎ (f ≡ e)
contains_with e f K h = elim (has_with e f K (has_of (with_one e K) f h)) [ inl k ↦ inl (contains_of K f k) | inr same ↦ inr same ]

pub with_contains : (e f : Pair) (K : List Pair) → Contains K f → Contains (with_one e K) f
with_contains e f K h = contains_of (with_one e K) f (with_has e f K (has_of K f h))

pub with_contains_own : (e : Pair) (K : List Pair) → Contains (with_one e K) e
with_contains_own e K = contains_of (with_one e K) e (with_own e K)

pub joins_without : (e : Pair) (K : List Pair) (i j : ℕ) → Joins (without e K) i j → Joins K i j × ¬ HasEnds e i j
joins_without e K i j h =
    let (f, m, ends) = joined (without e K) i j h in
    let r = has_without e f K m in
    (joins_of K f i j r.0 ends, λ own. r.1 (one_pair f e i j ends own))

pub without_joins : (e : Pair) (K : List Pair) (i j : ℕ) → Joins K i j → ¬ HasEnds e i j → Joins (without e K) i j
without_joins e K i j h ne =
    let (f, m, ends) = joined K i j h in
    joins_of (without e K) f i j (without_has e f K m (λ same. ne (subst (λ (z : Pair). HasEnds z i j) same ends))) ends

pub joins_with : (e : Pair) (K : List Pair) (i j : ℕ) → Joins (with_one e K) i j → Joins K i j ⊎ HasEnds e i j
joins_with e K i j h =
    let (f, m, ends) = joined (with_one e K) i j h in
    elim (has_with e f K m) [ inl k ↦ inl (joins_of K f i j k ends) | inr same ↦ inr (subst (λ (z : Pair). HasEnds z i j) same ends) ]

pub with_joins : (e : Pair) (K : List Pair) (i j : ℕ) → Joins K i j → Joins (with_one e K) i j
with_joins e K i j h = let (f, m, ends) = joined K i j h in joins_of (with_one e K) f i j (with_has e f K m) ends

pub with_joins_own : (e : Pair) (K : List Pair) (i j : ℕ) → HasEnds e i j → Joins (with_one e K) i j
with_joins_own e K i j h = joins_of (with_one e K) e i j (with_own e K) h
