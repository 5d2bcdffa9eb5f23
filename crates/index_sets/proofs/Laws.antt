-- What the tables and the board cite: laws of lists of indices, of beginnings of lists, of entries, of owners, and of what
-- holds at each place of a list.
use Rattle.std.proofs.Common.{◌≡◌, ◌≢◌, ◌⊎◌, ⊎_elim, inl, inr, arith, ℕ, zero, suc, ◌+◌, ◌<◌, ◌≤◌, ◌++◌, length, length-append, map, Bool, true, false, true≢false, List, [], ◌∷◌, set, sym, refl, ap, ◌∙◌, subst, eq-eqb, ne_eqb}
use Rattle.std.specs.Prelude.{if◌then◌else◌, ◌||◌, nat_eq, nat_lt, cond, filter}
use Rattle.std.specs.List.{AllByRecursion}
use Rattle.std.proofs.lemmas.List.{append-nil, append_assoc, map-append}
use Rattle.std.proofs.lemmas.List.Elements.{filter-append}
use Rattle.std.proofs.lemmas.Bool.Decides.{nat_tests}
use mathlib.Core.Logic.{dite}
use mathlib.Core.List.{IsPrefix}
use mathlib.Core.Option.{some, some-injective, some-ne-none}
use native.Mathlib.Decide.{ℕ_discrete}
use lib.ListN.{get_elem?}
use Rattle.index_sets.specs.Indices.{contains, all_but, HasNoRepeat, numbers_from}
use Rattle.index_sets.specs.Prefixes.{longer}
use Rattle.index_sets.specs.Entries.{entries_of, LacksCaller}
use Rattle.index_sets.specs.Owners.{handed, merged, IsCut}
use Rattle.std.proofs.lemmas.Bool.{or_right, false_from_ne_true}

-- Lists of indices.
pub contains-first : (xs : List ℕ) (i : ℕ) → contains (i ∷ xs) i ≡ true
contains-first xs i = ap (λ b. b || contains xs i) (eq-eqb i i refl)

pub contains-other : (xs : List ℕ) (i j : ℕ) → j ≢ i → contains (i ∷ xs) j ≡ contains xs j
contains-other xs i j n = ap (λ b. b || contains xs j) (ne_eqb i j (λ e. n (sym e)))

pub contains-later : (x : ℕ) (xs : List ℕ) (p : ℕ) → contains xs p ≡ true → contains (x ∷ xs) p ≡ true
contains-later x xs p h = or_right (nat_eq x p) (contains xs p) h

pub contains-one : (i j : ℕ) → contains (i ∷ []) j ≡ true → j ≡ i
contains-one i j h = dite (ℕ_discrete i j) sym (λ n. absurd (true≢false (sym h ∙ ap (λ b. b || false) (ne_eqb i j n))))

pub contains-left : (xs ys : List ℕ) (p : ℕ) → contains xs p ≡ true → contains (xs ++ ys) p ≡ true
contains-left [] ys p h = absurd (true≢false (sym h))
contains-left (x ∷ xs) ys p h = dite (ℕ_discrete x p) (λ e. ap (λ b. b || contains (xs ++ ys) p) (eq-eqb x p e))
    (λ n. or_right (nat_eq x p) (contains (xs ++ ys) p) (contains-left xs ys p (sym (ap (λ b. b || contains xs p) (ne_eqb x p n)) ∙ h)))

pub contains-right : (xs ys : List ℕ) (p : ℕ) → contains ys p ≡ true → contains (xs ++ ys) p ≡ true
contains-right [] ys p h = h
contains-right (x ∷ xs) ys p h = or_right (nat_eq x p) (contains (xs ++ ys) p) (contains-right xs ys p h)

pub contains-append : (xs ys : List ℕ) (p : ℕ) → contains (xs ++ ys) p ≡ true → (contains xs p ≡ true) ⊎ (contains ys p ≡ true)
contains-append [] ys p h = inr h
contains-append (x ∷ xs) ys p h = dite (ℕ_discrete x p) (λ e. inl (ap (λ b. b || contains xs p) (eq-eqb x p e)))
    (λ n. ⊎_elim (λ l. inl (ap (λ b. b || contains xs p) (ne_eqb x p n) ∙ l)) inr (contains-append xs ys p (sym (ap (λ b. b || contains (xs ++ ys) p) (ne_eqb x p n)) ∙ h)))

pub contains-snoc : (xs : List ℕ) (i : ℕ) → contains (xs ++ i ∷ []) i ≡ true
contains-snoc xs i = contains-right xs (i ∷ []) i (contains-first [] i)

pub contains-snoc-other : (xs : List ℕ) (i j : ℕ) → j ≢ i → contains (xs ++ i ∷ []) j ≡ contains xs j
contains-snoc-other [] i j n = contains-other [] i j n
contains-snoc-other (x ∷ xs) i j n = ap (λ b. nat_eq x j || b) (contains-snoc-other xs i j n)

pub contains-empty : (xs : List ℕ) (i : ℕ) → xs ≡ [] → contains xs i ≡ true → ⊥
contains-empty xs i e h = true≢false (sym h ∙ ap (λ l. contains l i) e)

pub contains-all_but : (xs : List ℕ) (i : ℕ) → contains (all_but xs i) i ≡ false
contains-all_but [] i = refl
contains-all_but (x ∷ xs) i = dite (ℕ_discrete x i)
    (λ e. subst (λ b. contains (if b then all_but xs i else x ∷ all_but xs i) i ≡ false) (sym (eq-eqb x i e)) (contains-all_but xs i))
    (λ n. subst (λ b. contains (if b then all_but xs i else x ∷ all_but xs i) i ≡ false) (sym (ne_eqb x i n)) (subst (λ b. (b || contains (all_but xs i) i) ≡ false) (sym (ne_eqb x i n)) (contains-all_but xs i)))

pub contains-all_but-other : (xs : List ℕ) (i j : ℕ) → j ≢ i → contains (all_but xs i) j ≡ contains xs j
contains-all_but-other [] i j n = refl
contains-all_but-other (x ∷ xs) i j n = dite (ℕ_discrete x i)
    (λ e. subst (λ b. contains (if b then all_but xs i else x ∷ all_but xs i) j ≡ contains (x ∷ xs) j) (sym (eq-eqb x i e)) (contains-all_but-other xs i j n ∙ sym (subst (λ y. contains (y ∷ xs) j ≡ contains xs j) (sym e) (contains-other xs i j n))))
    (λ m. subst (λ b. contains (if b then all_but xs i else x ∷ all_but xs i) j ≡ contains (x ∷ xs) j) (sym (ne_eqb x i m)) (ap (λ b. nat_eq x j || b) (contains-all_but-other xs i j n)))

-- what is left was there, and is another index
pub all_but-is_other : (xs : List ℕ) (i j : ℕ) → contains (all_but xs i) j ≡ true → (contains xs j ≡ true) × (j ≢ i)
all_but-is_other xs i j h = let n : j ≢ i = (λ e. true≢false (sym h ∙ (ap (contains (all_but xs i)) e ∙ contains-all_but xs i))) in (sym (contains-all_but-other xs i j n) ∙ h, n)

pub all_but-absent : (xs : List ℕ) (i : ℕ) → contains xs i ≡ false → all_but xs i ≡ xs
all_but-absent [] i h = refl
all_but-absent (x ∷ xs) i h = dite (ℕ_discrete x i)
    (λ e. absurd (true≢false (sym (ap (λ b. b || contains xs i) (eq-eqb x i e)) ∙ h)))
    (λ n. ap (λ b. if b then all_but xs i else x ∷ all_but xs i) (ne_eqb x i n) ∙ ap (λ l. x ∷ l) (all_but-absent xs i (sym (ap (λ b. b || contains xs i) (ne_eqb x i n)) ∙ h)))

HasNoRepeat-init : (xs : List ℕ) (i : ℕ) → HasNoRepeat (xs ++ i ∷ []) → contains xs i ≡ false
HasNoRepeat-init [] i h = refl
HasNoRepeat-init (x ∷ xs) i h = dite (ℕ_discrete x i)
    (λ e. absurd (true≢false (sym (contains-snoc xs i) ∙ (ap (contains (xs ++ i ∷ [])) (sym e) ∙ h.0))))
    (λ n. ap (λ b. b || contains xs i) (ne_eqb x i n) ∙ HasNoRepeat-init xs i h.1)

-- where the index came last, the others are those before it
pub all_but-snoc : (xs : List ℕ) (i : ℕ) → HasNoRepeat (xs ++ i ∷ []) → all_but (xs ++ i ∷ []) i ≡ xs
all_but-snoc xs i h = go xs (HasNoRepeat-init xs i h)
  where
    go : (ys : List ℕ) → contains ys i ≡ false → all_but (ys ++ i ∷ []) i ≡ ys
    go [] a = ap (λ b. if b then [] else i ∷ []) (eq-eqb i i refl)
    go (y ∷ ys) a = dite (ℕ_discrete y i)
        (λ e. absurd (true≢false (sym (ap (λ b. b || contains ys i) (eq-eqb y i e)) ∙ a)))
        (λ n. ap (λ b. if b then all_but (ys ++ i ∷ []) i else y ∷ all_but (ys ++ i ∷ []) i) (ne_eqb y i n) ∙ ap (λ l. y ∷ l) (go ys (sym (ap (λ b. b || contains ys i) (ne_eqb y i n)) ∙ a)))

pub HasNoRepeat-append : (xs ys : List ℕ) → HasNoRepeat xs → HasNoRepeat ys → ((i : ℕ) → contains xs i ≡ true → contains ys i ≡ true → ⊥) → HasNoRepeat (xs ++ ys)
HasNoRepeat-append [] ys h k apart = k
HasNoRepeat-append (x ∷ xs) ys h k apart = (
  false_from_ne_true (contains (xs ++ ys) x) (λ t. ⊎_elim (λ l. true≢false (sym l ∙ h.0)) (λ r. apart x (contains-first xs x) r) (contains-append xs ys x t)),
  HasNoRepeat-append xs ys h.1 k (λ i l r. apart i (contains-later x xs i l) r),
)

pub HasNoRepeat-snoc : (xs : List ℕ) (i : ℕ) → HasNoRepeat xs → contains xs i ≡ false → HasNoRepeat (xs ++ i ∷ [])
HasNoRepeat-snoc xs i h a = HasNoRepeat-append xs (i ∷ []) h (refl, tt) (λ j l r. true≢false (sym l ∙ (ap (contains xs) (contains-one i j r) ∙ a)))

pub HasNoRepeat-all_but : (xs : List ℕ) (i : ℕ) → HasNoRepeat xs → HasNoRepeat (all_but xs i)
HasNoRepeat-all_but [] i h = tt
HasNoRepeat-all_but (x ∷ xs) i h = dite (ℕ_discrete x i)
    (λ e. subst (λ b. HasNoRepeat (if b then all_but xs i else x ∷ all_but xs i)) (sym (eq-eqb x i e)) (HasNoRepeat-all_but xs i h.1))
    (λ n. subst (λ b. HasNoRepeat (if b then all_but xs i else x ∷ all_but xs i)) (sym (ne_eqb x i n)) (contains-all_but-other xs i x n ∙ h.0, HasNoRepeat-all_but xs i h.1))

pub numbers_from-least : (n count p : ℕ) → contains (numbers_from n count) p ≡ true → n ≤ p
numbers_from-least n zero p h = absurd (true≢false (sym h))
numbers_from-least n (suc m) p h = dite (ℕ_discrete n p) (λ e. omega arith) (λ ne. let z = numbers_from-least (suc n) m p (sym (ap (λ b. b || contains (numbers_from (suc n) m) p) (ne_eqb n p ne)) ∙ h) in omega arith)

pub numbers_from-most : (n count p : ℕ) → contains (numbers_from n count) p ≡ true → p < n + count
numbers_from-most n zero p h = absurd (true≢false (sym h))
numbers_from-most n (suc m) p h = dite (ℕ_discrete n p) (λ e. omega arith) (λ ne. let z = numbers_from-most (suc n) m p (sym (ap (λ b. b || contains (numbers_from (suc n) m) p) (ne_eqb n p ne)) ∙ h) in omega arith)

pub numbers_from-all : (n count p : ℕ) → n ≤ p → p < n + count → contains (numbers_from n count) p ≡ true
numbers_from-all n zero p l u = absurd (omega arith)
numbers_from-all n (suc m) p l u = dite (ℕ_discrete n p) (λ e. ap (λ b. b || contains (numbers_from (suc n) m) p) (eq-eqb n p e)) (λ ne. or_right (nat_eq n p) (contains (numbers_from (suc n) m) p) (numbers_from-all (suc n) m p (omega arith) (omega arith)))

pub numbers_from-snoc : (n count : ℕ) → numbers_from n (suc count) ≡ numbers_from n count ++ (n + count) ∷ []
numbers_from-snoc n zero = ap (λ x. x ∷ []) (let z : n ≡ n + 0 = omega arith in z)
numbers_from-snoc n (suc m) = ap (λ l. n ∷ l) (numbers_from-snoc (suc n) m ∙ ap (λ x. numbers_from (suc n) m ++ x ∷ []) (let z : suc n + m ≡ n + suc m = omega arith in z))

-- one more of what there is for each number from 1
pub map-numbers_from-next : {A : Type 0} (f : ℕ → A) (xs : List A) (x : A) (count : ℕ) → xs ≡ map f (numbers_from 1 count) → x ≡ f (1 + count) → xs ++ x ∷ [] ≡ map f (numbers_from 1 (count + 1))
map-numbers_from-next f xs x count is next =
    let e : suc count ≡ count + 1 = omega arith in
    (λ i. is i ++ next i ∷ []) ∙ (sym (map-append f (numbers_from 1 count) ((1 + count) ∷ [])) ∙ (ap (map f) (sym (numbers_from-snoc 1 count)) ∙ ap (λ z. map f (numbers_from 1 z)) e))

-- two lists with one more each are the same only if their parts are
pub snoc-same : {A : Type 0} (xs ys : List A) (x y : A) → xs ++ x ∷ [] ≡ ys ++ y ∷ [] → (xs ≡ ys) × (x ≡ y)
snoc-same [] [] x y e = (refl, cc)
snoc-same [] (b ∷ ys) x y e = absurd (let n = length-append ys (y ∷ []) in let m = ap (λ l. length l) e in omega arith)
snoc-same (a ∷ xs) [] x y e = absurd (let n = length-append xs (x ∷ []) in let m = ap (λ l. length l) e in omega arith)
snoc-same (a ∷ xs) (b ∷ ys) x y e =
    let head : a ≡ b = cc in
    let tail : xs ++ x ∷ [] ≡ ys ++ y ∷ [] = cc in
    let r = snoc-same xs ys x y tail in
    (λ i. head i ∷ r.0 i, r.1)

-- the last of what there is for each number from 1
pub map-numbers_from-last : {A : Type 0} (f : ℕ → A) (xs : List A) (x : A) (count : ℕ) → xs ++ x ∷ [] ≡ map f (numbers_from 1 (count + 1)) → (xs ≡ map f (numbers_from 1 count)) × (x ≡ f (1 + count))
map-numbers_from-last f xs x count is = snoc-same xs (map f (numbers_from 1 count)) x (f (1 + count)) (is ∙ sym (map-numbers_from-next f (map f (numbers_from 1 count)) (f (1 + count)) count refl refl))

pub length-numbers_from : (n count : ℕ) → length (numbers_from n count) ≡ count
length-numbers_from n zero = refl
length-numbers_from n (suc m) = ap suc (length-numbers_from (suc n) m)

-- a list that contains nothing
pub contains-nothing : (xs : List ℕ) → ((i : ℕ) → contains xs i ≡ true → ⊥) → xs ≡ []
contains-nothing [] h = refl
contains-nothing (x ∷ xs) h = absurd (h x (contains-first xs x))

-- what holds of each index that is among them
pub AllByRecursion-contains : (P : ℕ → Type 0) (xs : List ℕ) → ((i : ℕ) → contains xs i ≡ true → P i) → AllByRecursion P xs
AllByRecursion-contains P [] h = tt
AllByRecursion-contains P (x ∷ xs) h = (h x (contains-first xs x), AllByRecursion-contains P xs (λ i t. h i (contains-later x xs i t)))

pub HasNoRepeat-numbers_from : (n count : ℕ) → HasNoRepeat (numbers_from n count)
HasNoRepeat-numbers_from n zero = tt
HasNoRepeat-numbers_from n (suc m) = (false_from_ne_true (contains (numbers_from (suc n) m) n) (λ t. let z = numbers_from-least (suc n) m n t in absurd (omega arith)), HasNoRepeat-numbers_from (suc n) m)

-- Owners.
pub handed-here : (owner : ℕ → ℕ) (indices : List ℕ) (new i : ℕ) → contains indices i ≡ true → handed owner indices new i ≡ new
handed-here owner indices new i h = ap (λ b. if b then new else owner i) h

pub handed-else : (owner : ℕ → ℕ) (indices : List ℕ) (new i : ℕ) → contains indices i ≡ false → handed owner indices new i ≡ owner i
handed-else owner indices new i h = ap (λ b. if b then new else owner i) h

-- what one owner had, and didn't go, is still another's than what somebody else had
pub handed-others : (owner : ℕ → ℕ) (indices : List ℕ) (new id j i : ℕ) → ((k : ℕ) → contains indices k ≡ true → owner k ≡ id) → j ≢ id → owner i ≡ j → handed owner indices new i ≡ j
handed-others owner indices new id j i theirs other own = handed-else owner indices new i (false_from_ne_true (contains indices i) (λ t. other (sym own ∙ theirs i t))) ∙ own

pub merged-old : (owner : ℕ → ℕ) (old new i : ℕ) → owner i ≡ old → merged owner old new i ≡ new
merged-old owner old new i e = ap (λ b. if b then new else owner i) (eq-eqb (owner i) old e)

pub merged-else : (owner : ℕ → ℕ) (old new i : ℕ) → owner i ≢ old → merged owner old new i ≡ owner i
merged-else owner old new i n = ap (λ b. if b then new else owner i) (ne_eqb (owner i) old n)

pub IsCut-one : (xs : List ℕ) (i : ℕ) → contains xs i ≡ true → IsCut xs (all_but xs i) (i ∷ [])
IsCut-one xs i h = record {
  left = λ j l. let o = all_but-is_other xs i j l in (o.0, false_from_ne_true (contains (i ∷ []) j) (λ t. o.1 (contains-one i j t)));
  right = λ j r. ap (contains xs) (contains-one i j r) ∙ h;
}

pub IsCut-none : (xs : List ℕ) → IsCut xs xs []
IsCut-none xs = record { left = λ j l. (l, refl); right = λ j r. absurd (true≢false (sym r)) }

pub IsCut-first : (x : ℕ) (xs : List ℕ) → contains xs x ≡ false → IsCut (x ∷ xs) xs (x ∷ [])
IsCut-first x xs h = record {
  left = λ j l. (contains-later x xs j l, false_from_ne_true (contains (x ∷ []) j) (λ t. true≢false (sym l ∙ (ap (contains xs) (contains-one x j t) ∙ h))));
  right = λ j r. ap (contains (x ∷ xs)) (contains-one x j r) ∙ contains-first xs x;
}

-- Beginnings of lists.
module _ {T : Type 0} where
  pub IsPrefix-refl : (xs : List T) → IsPrefix xs xs
  IsPrefix-refl xs = ([], append-nil xs)

  pub IsPrefix-append : (xs ys zs : List T) → IsPrefix xs ys → IsPrefix xs (ys ++ zs)
  IsPrefix-append xs ys zs p = (p.0 ++ zs, sym (append_assoc xs p.0 zs) ∙ ap (λ l. l ++ zs) p.1)

  pub IsPrefix-trans : (xs ys zs : List T) → IsPrefix xs ys → IsPrefix ys zs → IsPrefix xs zs
  IsPrefix-trans xs ys zs p q = (p.0 ++ q.0, sym (append_assoc xs p.0 q.0) ∙ (ap (λ l. l ++ q.0) p.1 ∙ q.1))

  -- a beginning that is as long is the whole
  pub IsPrefix-whole : (xs ys : List T) → IsPrefix xs ys → length ys ≤ length xs → xs ≡ ys
  IsPrefix-whole [] [] p h = refl
  IsPrefix-whole [] (y ∷ ys) p h = absurd (omega arith)
  IsPrefix-whole (x ∷ xs) ys p h = subst (λ l. length l ≤ length (x ∷ xs) → x ∷ xs ≡ l) p.1 (λ h'. ap (λ l. x ∷ l) (IsPrefix-whole xs (xs ++ p.0) (p.0, refl) (omega arith))) h

  -- of two beginnings of one list the shorter begins the longer
  pub IsPrefix-both : (xs ys zs : List T) → IsPrefix xs zs → IsPrefix ys zs → length xs ≤ length ys → IsPrefix xs ys
  IsPrefix-both [] ys zs p q h = (ys, refl)
  IsPrefix-both (x ∷ xs) [] zs p q h = absurd (omega arith)
  IsPrefix-both (x ∷ xs) (y ∷ ys) zs p q h =
      let e : x ∷ (xs ++ p.0) ≡ y ∷ (ys ++ q.0) = p.1 ∙ sym q.1 in
      let r = IsPrefix-both xs ys (ys ++ q.0) (p.0, tails e) (q.0, refl) (omega arith) in
      (r.0, λ i. heads e i ∷ r.1 i)
    where
      heads : {a b : T} {xs ys : List T} → a ∷ xs ≡ b ∷ ys → a ≡ b
      heads e = cc

      tails : {a b : T} {xs ys : List T} → a ∷ xs ≡ b ∷ ys → xs ≡ ys
      tails e = cc

  pub IsPrefix-length : (xs ys : List T) → IsPrefix xs ys → length xs ≤ length ys
  IsPrefix-length [] ys p = omega arith
  IsPrefix-length (x ∷ xs) ys p = subst (λ (l : List T). length (x ∷ xs) ≤ length l) p.1 (let z = IsPrefix-length xs (xs ++ p.0) (p.0, refl) in omega arith)

  -- the longer of two beginnings is one, and both begin it
  pub longer-is_prefix : (xs ys zs : List T) → IsPrefix xs zs → IsPrefix ys zs → IsPrefix (longer xs ys) zs × (length xs ≤ length (longer xs ys)) × (length ys ≤ length (longer xs ys))
  longer-is_prefix xs ys zs p q = by_test (nat_lt (length xs) (length ys)) refl
    where
      less : {i j : ℕ} → nat_lt i j ≡ true → i < j
      less e = grind (arith, nat_tests)

      not_less : {i j : ℕ} → nat_lt i j ≡ false → j ≤ i
      not_less e = grind (arith, nat_tests)

      by_test : (b : Bool) → nat_lt (length xs) (length ys) ≡ b → IsPrefix (longer xs ys) zs × (length xs ≤ length (longer xs ys)) × (length ys ≤ length (longer xs ys))
      by_test true is = subst (λ (l : List T). IsPrefix l zs × (length xs ≤ length l) × (length ys ≤ length l)) (ap (λ b. if b then ys else xs) (sym is)) (q, (let z = less is in omega arith), omega arith)
      by_test false is = subst (λ (l : List T). IsPrefix l zs × (length xs ≤ length l) × (length ys ≤ length l)) (ap (λ b. if b then ys else xs) (sym is)) (p, omega arith, not_less is)

-- What holds at each place of a list.
module _ {T : Type 0} where
  pub get_elem?-inside : (l : List T) (k : ℕ) (e : T) → get_elem? l k ≡ some e → k < length l
  get_elem?-inside [] k e at = absurd (some-ne-none e (sym at))
  get_elem?-inside (x ∷ xs) zero e at = omega arith
  get_elem?-inside (x ∷ xs) (suc k) e at = let r = get_elem?-inside xs k e at in omega arith

  pub get_elem?-below : (l : List T) (k : ℕ) → k < length l → (e : T) × (get_elem? l k ≡ some e)
  get_elem?-below [] k h = absurd (omega arith)
  get_elem?-below (x ∷ xs) zero h = (x, refl)
  get_elem?-below (x ∷ xs) (suc k) h = get_elem?-below xs k (omega arith)

  pub get_elem?-prefix : (xs ys : List T) (k : ℕ) (e : T) → IsPrefix xs ys → get_elem? xs k ≡ some e → get_elem? ys k ≡ some e
  get_elem?-prefix xs ys k e p at = subst (λ l. get_elem? l k ≡ some e) p.1 (longer_at xs k at)
    where
      longer_at : (l : List T) (i : ℕ) → get_elem? l i ≡ some e → get_elem? (l ++ p.0) i ≡ some e
      longer_at [] i q = absurd (some-ne-none e (sym q))
      longer_at (x ∷ l) zero q = q
      longer_at (x ∷ l) (suc i) q = longer_at l i q

  pub get_elem?-snoc : (l : List T) (a b : T) (j : ℕ) → get_elem? (l ++ a ∷ []) j ≡ some b → (get_elem? l j ≡ some b) ⊎ ((a ≡ b) × (j ≡ length l))
  get_elem?-snoc [] a b zero e = inr (some-injective a b e, refl)
  get_elem?-snoc [] a b (suc j) e = absurd (some-ne-none b (sym e))
  get_elem?-snoc (x ∷ xs) a b zero e = inl e
  get_elem?-snoc (x ∷ xs) a b (suc j) e = ⊎_elim inl (λ t. inr (t.0, ap suc t.1)) (get_elem?-snoc xs a b j e)

  -- where one element is new and the others were there, what holds of each of them holds of all
  pub each-set : (K : ℕ → T → Type 0) (l : List T) (i : ℕ) (w : T) → K i w → ((j : ℕ) (u : T) → j ≢ i → get_elem? l j ≡ some u → K j u) → (j : ℕ) (u : T) → get_elem? (set l i w) j ≡ some u → K j u
  each-set K [] i w mine others j u e = absurd (some-ne-none u (sym e))
  each-set K (x ∷ xs) zero w mine others zero u e = subst (K zero) (some-injective w u e) mine
  each-set K (x ∷ xs) zero w mine others (suc j) u e = others (suc j) u (λ q. omega arith) e
  each-set K (x ∷ xs) (suc i) w mine others zero u e = others zero u (λ q. omega arith) e
  each-set K (x ∷ xs) (suc i) w mine others (suc j) u e = each-set (λ k y. K (suc k) y) xs i w mine (λ k y n at. others (suc k) y (λ q. n (omega arith)) at) j u e

  -- what holds of each element past the first list holds of all of the second
  pub AllByRecursion-past : (P : T → Type 0) (xs ys : List T) → ((k : ℕ) (e : T) → length xs ≤ k → get_elem? (xs ++ ys) k ≡ some e → P e) → AllByRecursion P ys
  AllByRecursion-past P [] [] h = tt
  AllByRecursion-past P [] (y ∷ ys) h = (h 0 y (omega arith) refl, AllByRecursion-past P [] ys (λ k e l at. h (suc k) e (omega arith) at))
  AllByRecursion-past P (x ∷ xs) ys h = AllByRecursion-past P xs ys (λ k e l at. h (suc k) e (omega arith) at)

-- Entries.
module _ {T : Type 0} (caller : T → ℕ) where
  filter-lacks : (c : ℕ) (more : List T) → LacksCaller caller more c → filter (λ e. nat_eq (caller e) c) more ≡ []
  filter-lacks c [] h = refl
  filter-lacks c (x ∷ more) h = ap (λ b. cond b (x ∷ filter (λ e. nat_eq (caller e) c) more) (filter (λ e. nat_eq (caller e) c) more)) h.0 ∙ filter-lacks c more h.1

  -- entries of others don't count
  pub entries_of-lacks : (c : ℕ) (entries more : List T) → LacksCaller caller more c → entries_of caller c (entries ++ more) ≡ entries_of caller c entries
  entries_of-lacks c entries more h =
      let t : T → Bool = λ e. nat_eq (caller e) c in
      let e : filter t (entries ++ more) ≡ filter t entries = filter-append t entries more ∙ (ap (λ l. filter t entries ++ l) (filter-lacks c more h) ∙ append-nil (filter t entries)) in
      ap (λ l. if nat_eq c 0 then [] else l) e

  -- an entry of one's own is the last
  pub entries_of-snoc : (c : ℕ) (entries : List T) (e : T) → c ≢ 0 → caller e ≡ c → entries_of caller c (entries ++ e ∷ []) ≡ entries_of caller c entries ++ e ∷ []
  entries_of-snoc c entries e some_caller own =
      let t : T → Bool = λ x. nat_eq (caller x) c in
      let it : filter t (e ∷ []) ≡ e ∷ [] = ap (λ b. cond b (e ∷ []) []) (eq-eqb (caller e) c own) in
      let q : filter t (entries ++ e ∷ []) ≡ filter t entries ++ e ∷ [] = filter-append t entries (e ∷ []) ∙ ap (λ l. filter t entries ++ l) it in
      ap (λ b. if b then [] else filter t (entries ++ e ∷ [])) (ne_eqb c 0 some_caller) ∙ (q ∙ ap (λ b. (if b then [] else filter t entries) ++ e ∷ []) (sym (ne_eqb c 0 some_caller)))
