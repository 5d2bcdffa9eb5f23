-- What the shown apexes of a pair say of all its apexes, and what a mark says.
use Rattle.std.proofs.Common.{◌≡◌, ℕ, pos, ◌<◌, Bool, true, false, List, length, inl, inr, sym, ◌∙◌, ap, subst, arith, Option, Some, None}
use Rattle.std.specs.Prelude.{◌<ℤ◌, IfSome}
use Rattle.plane.specs.declared.coordinates.Point.{Point}
use Rattle.plane.specs.declared.segment.Pair.{Pair}
use Rattle.std.proofs.lemmas.Int.{ints}
use Rattle.plane.specs.Geometry.{point, orientation, IsInNeed, IsBorderPair}
use Rattle.plane.proofs.laws.Area.{area_back}
use Rattle.partition_defs.specs.Partition.{HasEnds}
use Rattle.star.specs.Stars.{Seen, entry, IsStar, StandsAt, IsNext, IsNeighbour, HasMark}
use Rattle.star.specs.Gaps.{IsKept, MeetsAll, MeetsWithout, MissesSome, MissesWithout}
use Rattle.journal_defs.specs.Table.{ShowsApex, IsEitherApex, JoinsApexes}
use Rattle.std.proofs.lemmas.Bool.{false≢true}
use Rattle.star.proofs.laws.Marks.{one_mark, one_next, mark_at, marked_neighbour}
use Rattle.journal_defs.proofs.laws.Table.{one_shown}
use Rattle.edit.specs.Shown.{IsShownApex}
use Rattle.edit.specs.FlipRow.{IsOneOf}
use Rattle.std.proofs.lemmas.Option.{same_Some}

-- where the neighbour after q isn't on the left there is no apex
pub not_left : (S : List Point) (s : Seen) (p q r : ℕ) → IsStar s → IsNext s q (Some r) → ¬ (pos 0 <ℤ orientation S p q r) → (t : ℕ) → ¬ ShowsApex S s p q t
not_left S s p q r star next right t h = right (subst (λ x. pos 0 <ℤ orientation S p q x) (one_next s q t r star h.0 next) h.1)

pub not_next : (S : List Point) (s : Seen) (p q : ℕ) → IsNext s q None → (t : ℕ) → ¬ ShowsApex S s p q t
not_next S s p q none t ((k, stands, is), left) = none (k, stands)

pub shown_some : (S : List Point) (s : Seen) (p q v : ℕ) (k : Option ℕ) → IsShownApex S s p q k → k ≡ Some v → ShowsApex S s p q v
shown_some S s p q v None h e = absurd (no_some v e)
  where
    no_some : (v : ℕ) → ¬ (None ≡ Some v)
    no_some v e = cc
shown_some S s p q v (Some r) h e = subst (λ x. ShowsApex S s p q x) (same_Some r v e) h

some_shown : (S : List Point) (s : Seen) (p q v : ℕ) (k : Option ℕ) → IsStar s → IsShownApex S s p q k → ShowsApex S s p q v → k ≡ Some v
some_shown S s p q v None star h g = absurd (h v g)
some_shown S s p q v (Some r) star h g = ap (λ (x : ℕ). Some x) (one_shown S (λ _. s) p q r v star h g)

-- the two shown apexes are all
pub one_of_apex : (S : List Point) (low high : Seen) (e : Pair) (v : ℕ) (near far : Option ℕ) → IsShownApex S low e.lo e.hi near → IsShownApex S high e.hi e.lo far → IsOneOf near far v → IsEitherApex S low high e v
one_of_apex S low high e v near far hn hf (inl h) = inl (shown_some S low e.lo e.hi v near hn h)
one_of_apex S low high e v near far hn hf (inr h) = inr (shown_some S high e.hi e.lo v far hf h)

pub apex_one_of : (S : List Point) (low high : Seen) (e : Pair) (v : ℕ) (near far : Option ℕ) → IsStar low → IsStar high → IsShownApex S low e.lo e.hi near → IsShownApex S high e.hi e.lo far → IsEitherApex S low high e v → IsOneOf near far v
apex_one_of S low high e v near far sl sh hn hf (inl h) = inl (some_shown S low e.lo e.hi v near sl hn h)
apex_one_of S low high e v near far sl sh hn hf (inr h) = inr (some_shown S high e.hi e.lo v far sh hf h)

-- two different ends that are apexes are one on each side
pub joins_shown : (S : List Point) (low high : Seen) (e f : Pair) (k l : ℕ) → ShowsApex S low e.lo e.hi k → ShowsApex S high e.hi e.lo l → IsOneOf (Some k) (Some l) f.lo → IsOneOf (Some k) (Some l) f.hi → JoinsApexes S low high e f k l
joins_shown S low high e f k l hk hl a b = record { near = hk; far = hl; ends = ends a b }
  where
    ends : IsOneOf (Some k) (Some l) f.lo → IsOneOf (Some k) (Some l) f.hi → HasEnds f k l
    ends (inl x) (inl y) = absurd (let p = same_Some k f.lo x in let q = same_Some k f.hi y in let o = f.ordered in omega (arith, p, q))
    ends (inl x) (inr y) = inl (sym (same_Some k f.lo x), sym (same_Some l f.hi y))
    ends (inr x) (inl y) = inr (sym (same_Some l f.lo x), sym (same_Some k f.hi y))
    ends (inr x) (inr y) = absurd (let p = same_Some l f.lo x in let q = same_Some l f.hi y in let o = f.ordered in omega (arith, p, q))

-- so both apexes are there
pub both_there : (near far : Option ℕ) (f : Pair) → IsOneOf near far f.lo → IsOneOf near far f.hi → ((k : ℕ) × (near ≡ Some k)) × ((l : ℕ) × (far ≡ Some l))
both_there near far f (inl x) (inr y) = ((f.lo, x), (f.hi, y))
both_there near far f (inr x) (inl y) = ((f.hi, y), (f.lo, x))
both_there near far f (inl x) (inl y) = absurd (let p = same_Some f.lo f.hi (sym x ∙ y) in let o = f.ordered in omega (arith, p))
both_there near far f (inr x) (inr y) = absurd (let p = same_Some f.lo f.hi (sym x ∙ y) in let o = f.ordered in omega (arith, p))

-- without a neighbour that isn't kept the needs are those of all kept neighbours
kept_at : (s : Seen) (k : ℕ) → IsKept s.list k → HasMark s (entry s.list k).0 true
kept_at s k kept = (k, kept.0, ap (λ (b : Bool). (let p : ℕ × Bool = ((entry s.list k).0, b) in p)) kept.1)

mark_kept : (s : Seen) (r : ℕ) → HasMark s r true → (k : ℕ) × IsKept s.list k × ((entry s.list k).0 ≡ r)
mark_kept s r (k, hk, at) = (k, (hk, ap (λ (p : ℕ × Bool). p.1) at), ap (λ (p : ℕ × Bool). p.0) at)

pub missed_without : (s : Seen) (q : ℕ) → ¬ HasMark s q true → MissesSome s.points s.centre s.list → MissesWithout s q
missed_without s q away (u, hu, ne, none) = (
  u,
  hu,
  ne,
  λ r mark apart need. (let (k, kept, at) = mark_kept s r mark in none k kept (subst (λ x. IsInNeed s.points s.centre u x) (sym at) need)),
)

pub without_missed : (s : Seen) (q : ℕ) → ¬ HasMark s q true → MissesWithout s q → MissesSome s.points s.centre s.list
without_missed s q away (u, hu, ne, none) = (
  u,
  hu,
  ne,
  λ k kept need. none (entry s.list k).0 (kept_at s k kept) (λ same. away (subst (λ x. HasMark s x true) same (kept_at s k kept))) need,
)

pub met_without : (s : Seen) (q : ℕ) → ¬ HasMark s q true → MeetsAll s.points s.centre s.list → MeetsWithout s q
met_without s q away met u hu ne =
    let (k, kept, need) = met u hu ne in
    ((entry s.list k).0, (λ same. away (subst (λ x. HasMark s x true) same (kept_at s k kept))), kept_at s k kept, need)

-- a pair with a point on each side is no border pair
pub apexes_inside : (S : List Point) (low high : Seen) (e : Pair) (k l : ℕ) → ShowsApex S low e.lo e.hi k → k < length S → ShowsApex S high e.hi e.lo l → l < length S → ¬ IsBorderPair S e.lo e.hi
apexes_inside S low high e k l hk kn hl ln (clear, inl left) =
    (let w = left l ln in let z = area_back (point S e.lo) (point S e.hi) (point S l) in let u = hl.1 in omega (arith, ints))
apexes_inside S low high e k l hk kn hl ln (clear, inr left) =
    (let w = left k kn in let z = area_back (point S e.hi) (point S e.lo) (point S k) in let u = hk.1 in omega (arith, ints))

-- a neighbour whose mark is false
pub spare_of : (s : Seen) (q : ℕ) (b : Bool) → IsStar s → HasMark s q b → b ≡ false → IsNeighbour s q × ¬ HasMark s q true
spare_of s q b star m e = (marked_neighbour s q b m, λ g. one_mark s q star (subst (λ (x : Bool). HasMark s q x) e m) g)

-- at its position a neighbour whose mark is false
pub not_kept_at : (s : Seen) (q k : ℕ) → IsStar s → StandsAt s k q → (entry s.list k).1 ≡ false → ¬ HasMark s q true
not_kept_at s q k star stands off m = false≢true (sym off ∙ mark_at s q k true star m stands)

pub some_within : (o : Option ℕ) (v n : ℕ) → IfSome o (λ r. r < n) → o ≡ Some v → v < n
some_within o v n h e = let P : Option ℕ → Type 0 = λ x. IfSome x (λ r. r < n) in subst P e h
