-- The needs of a centre by its star, and what its kept neighbours meet without one of them.
use Rattle.std.proofs.Common.{◌≡◌, ◌≢◌, ℕ, ◌<◌, Bool, true, false, List, length, set, inl, inr, ◌↔◌, IsTrue, arith, sym, ◌∙◌, ap, subst, refl, pos, ◌≤ℤ◌}
use Rattle.std.proofs.lemmas.Int.{ints}
use Rattle.std.proofs.lemmas.Bool.{false≢true}
use Rattle.plane.specs.declared.coordinates.Point.{Point}
use Rattle.plane.specs.declared.segment.Pair.{Pair}
use Rattle.plane.specs.Geometry.{point, orientation, IsInNeed, IsBetween}
use Rattle.plane.specs.Accepted.{AreAccepted}
use Rattle.plane.proofs.laws.Area.{area_back}
use Rattle.partition_defs.specs.Partition.{Joins, MeetsNeedsAt}
use Rattle.star.specs.Stars.{Seen, entry, IsOrderly, HasMark, IsStar, StandsAt}
use Rattle.star.specs.StarOf.{IsStarOf}
use Rattle.star.specs.Gaps.{IsKept, MeetsAll, MissesSome, MeetsWithout, MissesWithout}
use Rattle.star.specs.Links.{MissesWithoutPlace}
use Rattle.star.proofs.Listed.{orderly_marked}
use Rattle.star.proofs.Gaps.{first_kept_from, met_without_wide_gap, missed_with_wide_gap}
use Rattle.star.proofs.Splits.{need_or_wide}
use Rattle.star.proofs.Without.{IsWithout, set_without}
use Rattle.star.proofs.Answers.{misses_new}
use Rattle.star.proofs.laws.Marks.{one_position}

-- where no need is missed, all are met
pub met_of_none_missed : (S : List Point) (c : ℕ) (list : List (ℕ × Bool)) → AreAccepted S → IsOrderly S c list → ¬ MissesSome S c list → MeetsAll S c list
met_of_none_missed S c list ok so none = (met_without_wide_gap S c list ok so).1 (
  some,
  λ i j ki aj. elim (need_or_wide S c list i j so aj.kept.0) [
    | inl h ↦ h
    | inr wide ↦ absurd (none ((missed_with_wide_gap S c list ok so).1 (inr (i, j, ki, aj, wide))))
  ],
)
  where
    some : (k : ℕ) × IsKept list k
    some = elim (first_kept_from list (length list) 0 (omega arith)) [
      | inl f ↦ (f.0, f.1)
      | inr low ↦ absurd (none ((missed_with_wide_gap S c list ok so).1 (inl (λ k h. (let z = low k h in omega arith)))))
    ]

pub none_missed_of_met : (S : List Point) (c : ℕ) (list : List (ℕ × Bool)) → MeetsAll S c list → ¬ MissesSome S c list
none_missed_of_met S c list all (u, hu, ne, missed) = let (k, kk, h) = all u hu ne in missed k kk h

-- the needs of v in K, by its star in (T, K), where the segments of K at v are in T
pub needs_of_star : (S : List Point) (T K : List Pair) (v : ℕ) (s : Seen) → IsStarOf S T K v s → ((w : ℕ) → Joins K v w → Joins T v w) → MeetsNeedsAt S K v ↔ MeetsAll S v s.list
needs_of_star S T K v s of inside = (to, from)
  where
    marked : (k : ℕ) → IsKept s.list k → HasMark s (entry s.list k).0 true
    marked k kk = (k, kk.0, ap (λ (b : Bool). let p : ℕ × Bool = ((entry s.list k).0, b) in p) kk.1)

    in_K : (k : ℕ) → IsKept s.list k → Joins K v (entry s.list k).0
    in_K k kk = (of.marks (entry s.list k).0 (k, (kk.0, refl))).0 (marked k kk)

    place : (r : ℕ) → Joins K v r → (k : ℕ) × IsKept s.list k × ((entry s.list k).0 ≡ r)
    place r h =
        let (k, hk, at) = (of.marks r ((of.neighbours r).1 (inside r h))).1 h in
        (k, (hk, ap (λ (p : ℕ × Bool). p.1) at), ap (λ (p : ℕ × Bool). p.0) at)

    to : MeetsNeedsAt S K v → MeetsAll S v s.list
    to all u hu ne =
        let (r, hr, joined, need) = all u hu ne in
        let (k, kk, at) = place r joined in
        (k, kk, subst (λ x. IsInNeed S v u x) (sym at) need)

    from : MeetsAll S v s.list → MeetsNeedsAt S K v
    from all u hu ne =
        let (k, kk, need) = all u hu ne in
        ((entry s.list k).0, subst (λ P. (entry s.list k).0 < length P) of.points (of.star.within k kk.0), in_K k kk, need)

-- a corner of the hull: all points on one side of the line from b to it, and none beyond it on this line; it misses the need of b
pub corner_misses : (S : List Point) (c b : ℕ) (list : List (ℕ × Bool)) → IsOrderly S c list → b < length S → b ≢ c → ((r : ℕ) → r < length S → pos 0 ≤ℤ orientation S b c r) → ((r : ℕ) → r < length S → ¬ IsBetween S c b r) → MissesSome S c list
corner_misses S c b list so hb ne side none = (
  b,
  hb,
  ne,
  λ k kk h. elim h.1 [
    | inl left ↦ (let r = (entry list k).0 in let s = side r (so.within k kk.0) in let e = area_back (point S b) (point S c) (point S r) in omega (arith, ints))
    | inr amid ↦ none (entry list k).0 (so.within k kk.0) amid
  ],
)

-- what is missed without a name is what is missed without its position
pub misses_by_place : (s : Seen) (k q : ℕ) → IsStar s → StandsAt s k q → MissesWithoutPlace s.points s.centre s.list k ↔ MissesWithout s q
misses_by_place s k q so stands = (
  λ h. (let (u, hu, ne, missed) = h in (
    u,
    hu,
    ne,
    λ r mark rq need. (let (m, hm, at) = mark in
        let here : (entry s.list m).0 ≡ r = ap (λ (p : ℕ × Bool). p.0) at in
        missed m (hm, ap (λ (p : ℕ × Bool). p.1) at) (λ e. rq (sym here ∙ ap (λ i. (entry s.list i).0) e ∙ stands.1)) (subst (λ x. IsInNeed s.points s.centre u x) (sym here) need)),
  )),
  λ h. (let (u, hu, ne, missed) = h in (
    u,
    hu,
    ne,
    λ m km mk need.
        missed (entry s.list m).0 (m, km.0, ap (λ (b : Bool). let p : ℕ × Bool = ((entry s.list m).0, b) in p) km.1)
        (λ e. mk (one_position s.points s.centre s.list m k so km.0 stands.0 (e ∙ sym stands.1))) need,
  )),
)

-- where none is missed without a kept neighbour, all needs are met without it
pub met_without_of_none_missed : (s : Seen) (k q : ℕ) → AreAccepted s.points → IsStar s → IsKept s.list k → (entry s.list k).0 ≡ q → ¬ MissesWithout s q → MeetsWithout s q
met_without_of_none_missed s k q ok so kk at none u hu ne =
    let less = set s.list k (q, false) in
    let w : IsWithout s.list less k = set_without s.list k q kk at in
    let by_place = misses_by_place s k q so (kk.0, at) in
    let (m, km, need) = met_of_none_missed s.points s.centre less ok (orderly_marked s.points s.centre s.list k q false so kk.0 at)
    (λ h. none (by_place.0 ((misses_new s.points s.centre s.list less k w).0 h))) u hu ne in
    let (mk, old) = w.rest m km in (
      (entry s.list m).0,
      λ e. mk (one_position s.points s.centre s.list m k so old.0 kk.0 (e ∙ sym at)),
      (m, old.0, ap (λ (b : Bool). let p : ℕ × Bool = ((entry s.list m).0, b) in p) old.1),
      subst (λ x. IsInNeed s.points s.centre u x) (w.names m) need,
    )

pub not_missed_of_met_without : (s : Seen) (q : ℕ) → MeetsWithout s q → ¬ MissesWithout s q
not_missed_of_met_without s q all (u, hu, ne, missed) = let (r, rq, mark, need) = all u hu ne in missed r mark rq need

-- an answer of what is missed without a position is one of what is missed without its name, and back
pub answered_by_name : (s : Seen) (k : ℕ) (b : Bool) → IsStar s → IsKept s.list k → (IsTrue b ↔ MissesWithoutPlace s.points s.centre s.list k) → IsTrue b ↔ MissesWithout s (entry s.list k).0
answered_by_name s k b so kk e = let f = misses_by_place s k (entry s.list k).0 so (kk.0, refl) in (λ t. f.0 (e.0 t), λ h. e.1 (f.1 h))

pub answered_by_place : (s : Seen) (k : ℕ) (b : Bool) → IsStar s → IsKept s.list k → (IsTrue b ↔ MissesWithout s (entry s.list k).0) → IsTrue b ↔ MissesWithoutPlace s.points s.centre s.list k
answered_by_place s k b so kk e = let f = misses_by_place s k (entry s.list k).0 so (kk.0, refl) in (λ t. f.1 (e.0 t), λ h. e.1 (f.0 h))

-- where the answer is that nothing is missed, all needs are met
pub met_of_answer : (s : Seen) (k : ℕ) (b : Bool) → AreAccepted s.points → IsStar s → IsKept s.list k → (IsTrue b ↔ MissesWithout s (entry s.list k).0) → b ≡ false → MeetsWithout s (entry s.list k).0
met_of_answer s k b ok so kk e f = met_without_of_none_missed s k (entry s.list k).0 ok so kk refl (λ h. false≢true (sym f ∙ e.1 h))
