-- The rows of the table from their parts.
use Rattle.std.proofs.Common.{◌≡◌, ℕ, List, ◌⊎◌, inl, inr, subst, refl, Option, Some, Ok, Err}
use Rattle.std.proofs.lemmas.Bool.{false≢true}
use Rattle.std.specs.Prelude.{Result, MatchResult, IsOk}
use Rattle.plane.specs.declared.coordinates.Point.{Point}
use Rattle.plane.specs.declared.segment.Pair.{Pair}
use Rattle.star.specs.Stars.{Seen, IsStar}
use Rattle.journal_defs.specs.declared.edit.Edit.TheVariants.{Drop, Keep, Flip}
use Rattle.journal_defs.specs.declared.edit.Why.{Why}
use Rattle.journal_defs.specs.declared.edit.Why.TheVariants.{NotThere, NotKept, NotSpare, Border, Opens, AlreadyThere, NotApex, Bent}
use Rattle.journal_defs.specs.Table.{seen_of, IsFresh, IsFirstNoApex, FitsDrop, FitsKeep, FitsFlip, JoinsApexes, RefusesDrop, RefusesKeep, RefusesFlip, Fits, Refuses}
use Rattle.edit.specs.Shown.{IsShownApex}
use Rattle.edit.specs.FlipRow.{IsOneOf, AreApexesOrWhy, AreSidesOrWhy}
use Rattle.edit.proofs.Shown.{one_of_apex, apex_one_of, joins_shown, shown_some}

-- the stars of the old pair's ends and the apexes that they show
pub record HasShown (S : List Point) (low high : Seen) (e : Pair) (near far : Option ℕ) : Type 0 where
  pub low_star : IsStar low
  pub high_star : IsStar high
  pub near_shown : IsShownApex S low e.lo e.hi near
  pub far_shown : IsShownApex S high e.hi e.lo far

first_no_apex : (S : List Point) (low high : Seen) (e f : Pair) (near far : Option ℕ) (v : ℕ) → HasShown S low high e near far
    → ((v ≡ f.lo) × ¬ IsOneOf near far f.lo) ⊎ ((v ≡ f.hi) × IsOneOf near far f.lo × ¬ IsOneOf near far f.hi) → IsFirstNoApex S low high e f v
first_no_apex S low high e f near far v h (inl x) =
    inl (x.0, λ a. x.1 (apex_one_of S low high e f.lo near far h.low_star h.high_star h.near_shown h.far_shown a))
first_no_apex S low high e f near far v h (inr x) =
    inr (x.0, one_of_apex S low high e f.lo near far h.near_shown h.far_shown x.1, λ a. x.2 (apex_one_of S low high e f.hi near far h.low_star h.high_star h.near_shown h.far_shown a))

pub apexes_refuse : (T : Type 0) (S : List Point) (low high new : Seen) (e f : Pair) (near far : Option ℕ) (why : Why) → HasShown S low high e near far → IsFresh low new e f
    → AreApexesOrWhy {T = T} near far f (Err why) → RefusesFlip S low high new e f why
apexes_refuse T S low high new e f near far (NotApex v) shown fresh h = (fresh, first_no_apex S low high e f near far v shown h)
apexes_refuse T S low high new e f near far NotThere shown fresh h = absurd h
apexes_refuse T S low high new e f near far NotKept shown fresh h = absurd h
apexes_refuse T S low high new e f near far NotSpare shown fresh h = absurd h
apexes_refuse T S low high new e f near far Border shown fresh h = absurd h
apexes_refuse T S low high new e f near far (Opens v) shown fresh h = absurd h
apexes_refuse T S low high new e f near far AlreadyThere shown fresh h = absurd h
apexes_refuse T S low high new e f near far (Bent v) shown fresh h = absurd h

-- with both apexes the sides decide
pub sides_decide : {T : Type 0} (S : List Point) (low high new : Seen) (e f : Pair) (near far : Option ℕ) (k l : ℕ) (r : Result T Why) → HasShown S low high e near far → IsFresh low new e f → near ≡ Some k → far ≡ Some l
    → IsOneOf near far f.lo → IsOneOf near far f.hi → AreSidesOrWhy S e k l r → MatchResult r (λ _. FitsFlip S low high new e f) (λ why. RefusesFlip S low high new e f why)
sides_decide {T} S low high new e f near far k l r shown fresh hk hl a b sides = decide r sides
  where
    at : (v : ℕ) → IsOneOf near far v → IsOneOf (Some k) (Some l) v
    at v h = subst (λ (x : Option ℕ). IsOneOf x (Some l) v) hk (subst (λ (y : Option ℕ). IsOneOf near y v) hl h)

    apexes : JoinsApexes S low high e f k l
    apexes = joins_shown S low high e f k l (shown_some S low e.lo e.hi k near shown.near_shown hk) (shown_some S high e.hi e.lo l far shown.far_shown hl) (at f.lo a) (at f.hi b)

    decide : (r : Result T Why) → AreSidesOrWhy S e k l r → MatchResult r (λ _. FitsFlip S low high new e f) (λ why. RefusesFlip S low high new e f why)
    decide (Ok _) h = record { there = fresh.0; spare = fresh.1; fresh = fresh.2; near = k; far = l; apexes = apexes; lower = h.0; upper = h.1 }
    decide (Err (Bent v)) h = (fresh, (k, l, apexes, h))
    decide (Err NotThere) h = absurd h
    decide (Err NotKept) h = absurd h
    decide (Err NotSpare) h = absurd h
    decide (Err Border) h = absurd h
    decide (Err (Opens v)) h = absurd h
    decide (Err AlreadyThere) h = absurd h
    decide (Err (NotApex v)) h = absurd h

-- the rows on the stars that a value has
pub drop_told : {T : Type 0} (S : List Point) (star : ℕ → Option Seen) (low high : Seen) (e : Pair) (r : Result T Why) → low ≡ seen_of star e.lo → high ≡ seen_of star e.hi
    → MatchResult r (λ _. FitsDrop S low high e) (λ why. RefusesDrop S low high e why)
    → MatchResult r (λ _. Fits S (seen_of star) (Drop e)) (λ why. Refuses S (seen_of star) (Drop e) why)
drop_told {T} S star low high e r a b h =
    subst (λ (y : Seen). MatchResult r (λ _. FitsDrop S (seen_of star e.lo) y e) (λ why. RefusesDrop S (seen_of star e.lo) y e why)) b
    (subst (λ (x : Seen). MatchResult r (λ _. FitsDrop S x high e) (λ why. RefusesDrop S x high e why)) a h)

pub keep_told : {T : Type 0} (S : List Point) (star : ℕ → Option Seen) (low : Seen) (e : Pair) (r : Result T Why) → low ≡ seen_of star e.lo
    → MatchResult r (λ _. FitsKeep low e) (λ why. RefusesKeep low e why)
    → MatchResult r (λ _. Fits S (seen_of star) (Keep e)) (λ why. Refuses S (seen_of star) (Keep e) why)
keep_told {T} S star low e r a h = subst (λ (x : Seen). MatchResult r (λ _. FitsKeep x e) (λ why. RefusesKeep x e why)) a h

pub flip_told : {T : Type 0} (S : List Point) (star : ℕ → Option Seen) (low high new : Seen) (e f : Pair) (r : Result T Why) → low ≡ seen_of star e.lo → high ≡ seen_of star e.hi → new ≡ seen_of star f.lo
    → MatchResult r (λ _. FitsFlip S low high new e f) (λ why. RefusesFlip S low high new e f why)
    → MatchResult r (λ _. Fits S (seen_of star) (Flip e f)) (λ why. Refuses S (seen_of star) (Flip e f) why)
flip_told {T} S star low high new e f r a b c h =
    subst (λ (z : Seen). MatchResult r (λ _. FitsFlip S (seen_of star e.lo) (seen_of star e.hi) z e f) (λ why. RefusesFlip S (seen_of star e.lo) (seen_of star e.hi) z e f why)) c
    (subst (λ (y : Seen). MatchResult r (λ _. FitsFlip S (seen_of star e.lo) y new e f) (λ why. RefusesFlip S (seen_of star e.lo) y new e f why)) b
    (subst (λ (x : Seen). MatchResult r (λ _. FitsFlip S x high new e f) (λ why. RefusesFlip S x high new e f why)) a h))

-- an answer of the table on true stars is Ok exactly where the edit is legal
pub ok_legal : {T : Type 0} (P L : Type 0) (R : Why → Type 0) (r : Result T Why) → MatchResult r (λ _. P) (λ why. R why) → (P → L) → ((why : Why) → R why → ¬ L) → (IsOk r → L) × (L → IsOk r)
ok_legal {T} P L R (Ok _) h to not = (λ t. to h, λ l. refl)
ok_legal {T} P L R (Err why) h to not = (λ t. absurd (false≢true t), λ l. absurd (not why h l))
