-- Sums over the part of a list that another list has.
use Rattle.std.proofs.Common.{◌≡◌, ◌≢◌, ℕ, zero, suc, ◌+◌, ◌≤◌, List, [], ◌∷◌, Bool, true, false, cond, sym, ap, subst, refl, arith}
use Rattle.std.specs.Prelude.{◌||◌}
use Rattle.std.specs.List.{AllPairs, Any, Contains, sum_by, list_any}
use Rattle.std.specs.Bool.{Decides}
use Rattle.std.proofs.lemmas.List.Sums.{sum_by-cons, sum_by-le-sum_by}
use Rattle.std.proofs.lemmas.List.Folds.{Any-from_list_any, list_any-from_Any}
use Rattle.number_laws.proofs.ListSums.{sum-one_off, outside}

-- f inside the list B
abbrev pub within : {X : Type 0} → (X → X → Bool) → (X → ℕ) → List X → X → ℕ
within same f B x = cond (list_any (same x) B) (f x) 0

outside_less : {X : Type 0} (same : X → X → Bool) (f : X → ℕ) (b : X) (B : List X) (x : X) → outside same f (b ∷ B) x ≤ outside same f B x
outside_less same f b B x =
    elim (same x b) as (λ t. cond (t || list_any (same x) B) 0 (f x) ≤ cond (list_any (same x) B) 0 (f x)) [ true ↦ omega arith | false ↦ omega arith ]

cond_zero : (b : Bool) (m : ℕ) → b ≡ true → cond b 0 m ≡ 0
cond_zero b m e = ap (λ t. cond t 0 m) e

cond_all : (b : Bool) (m : ℕ) → b ≡ false → cond b 0 m ≡ m
cond_all b m e = ap (λ t. cond t 0 m) e

or_true : (a b : Bool) → a ≡ true → (a || b) ≡ true
or_true a b e = ap (λ t. t || b) e

pub contains_of_any : {X : Type 0} (same : X → X → Bool) → ((x y : X) → Decides (same x y) (x ≡ y)) → (x : X) (xs : List X) → list_any (same x) xs ≡ true → Contains xs x
contains_of_any same dec x xs e =
    let a : Any (λ y. same x y ≡ true) xs = Any-from_list_any (same x) xs e in
    subst (Contains xs) (sym ((dec x a.1).0 a.4)) (a.0, a.2, a.3)

pub any_of_contains : {X : Type 0} (same : X → X → Bool) → ((x y : X) → Decides (same x y) (x ≡ y)) → (x : X) (xs : List X) → Contains xs x → list_any (same x) xs ≡ true
any_of_contains same dec x xs c = list_any-from_Any (same x) xs (c.0, x, c.1, c.2, (dec x x).1 refl)

tail_apart : {X : Type 0} (b : X) (B : List X) → AllPairs (λ (x y : X). x ≢ y) (b ∷ B) → AllPairs (λ (x y : X). x ≢ y) B
tail_apart b B h i j d l m = h (suc i) (suc j) d (omega arith) (omega arith)

head_new : {X : Type 0} (same : X → X → Bool) → ((x y : X) → Decides (same x y) (x ≡ y)) → (b : X) (B : List X) → AllPairs (λ (x y : X). x ≢ y) (b ∷ B) → list_any (same b) B ≡ false
head_new same dec b B h =
    elim (list_any (same b) B) as (λ t. list_any (same b) B ≡ t → t ≡ false) [
      | true ↦ λ e. (let c : Contains B b = contains_of_any same dec b B e in
          absurd (h zero (suc c.0) b (omega arith) (omega arith) (sym c.2)))
      | false ↦ λ e. refl
    ] refl

-- what a list without repeats has inside F is at most the sum over F
pub sum-within : {X : Type 0} (same : X → X → Bool) → ((x y : X) → Decides (same x y) (x ≡ y)) → (f : X → ℕ) (F K : List X)
    → AllPairs (λ (x y : X). x ≢ y) K → sum_by (within same f F) K + sum_by (outside same f K) F ≤ sum_by f F
sum-within same dec f F [] d = omega (arith, sum_by-le-sum_by (outside same f []) f F (λ x. omega arith))
sum-within {X} same dec f F (b ∷ K) d =
    let ih : sum_by (within same f F) K + sum_by (outside same f K) F ≤ sum_by f F = sum-within same dec f F K (tail_apart b K d) in
    elim (list_any (same b) F) as (λ t. list_any (same b) F ≡ t → sum_by (within same f F) (b ∷ K) + sum_by (outside same f (b ∷ K)) F ≤ sum_by f F) [
      | true ↦ λ e. (let at_new : outside same f (b ∷ K) b ≡ 0 = cond_zero (list_any (same b) (b ∷ K)) (f b) (or_true (same b b) (list_any (same b) K) ((dec b b).1 refl)) in
          let at_old : outside same f K b ≡ f b = cond_all (list_any (same b) K) (f b) (head_new same dec b K d) in
          let head : within same f F b ≡ f b = ap (λ t. cond t (f b) 0) e in
          let step : sum_by (outside same f (b ∷ K)) F + f b ≤ sum_by (outside same f K) F =
          sum-one_off (outside same f K) (outside same f (b ∷ K)) (f b) b F (contains_of_any same dec b F e) (outside_less same f b K) (omega arith) in
          omega (arith, sum_by-cons (within same f F) b K))
      | false ↦ λ e. (let head : within same f F b ≡ 0 = ap (λ t. cond t (f b) 0) e in
          omega (arith, sum_by-cons (within same f F) b K, sum_by-le-sum_by (outside same f (b ∷ K)) (outside same f K) F (outside_less same f b K)))
    ] refl
