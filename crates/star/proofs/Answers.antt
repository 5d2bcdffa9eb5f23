-- What the kept answers say.
use Rattle.std.proofs.Common.{◌≡◌, ℕ, ◌<◌, Bool, true, false, List, [], length, set, ◌⊎◌, inl, inr, ◌↔◌, ◌||◌, IsTrue, arith, sym, ◌∙◌, subst, refl}
use Rattle.std.proofs.lemmas.Bool.{false≢true}
use Rattle.plane.specs.declared.coordinates.Point.{Point}
use Rattle.plane.specs.Accepted.{AreAccepted}
use Rattle.plane.specs.Geometry.{IsInNeed}
use Rattle.star.specs.Stars.{entry, IsOrderly}
use Rattle.star.specs.declared.links.Link.{Link}
use Rattle.star.specs.Gaps.{IsKept, IsKeptAfter, IsKeptBefore, IsWide, MissesSome}
use Rattle.star.specs.Links.{link, HasRightLinks, MissesWithoutPlace}
use Rattle.star.proofs.Gaps.{missed_with_wide_gap}
use Rattle.star.proofs.Splits.{missed_without_mark}
use Rattle.star.proofs.Without.{IsWithout, set_without}

-- what the kept ones without k miss, over the list without its mark
pub misses_new : (S : List Point) (c : ℕ) (list new : List (ℕ × Bool)) (k : ℕ) → IsWithout list new k → MissesSome S c new ↔ MissesWithoutPlace S c list k
misses_new S c list new k w = (
  λ h. (let (u, hu, ne, missed) = h in (u, hu, ne, λ m km mk t. missed m (w.stays m km mk) (subst (λ x. IsInNeed S c u x) (sym (w.names m)) t))),
  λ h. (let (u, hu, ne, missed) = h in (u, hu, ne, λ m km t. (let (mk, old) = w.rest m km in missed m old mk (subst (λ x. IsInNeed S c u x) (w.names m) t)))),
)

-- without k some need is missed exactly where one is missed already, or the gap round k is more than straight
pub missed_without_one : (S : List Point) (c : ℕ) (list : List (ℕ × Bool)) (k a b : ℕ) → AreAccepted S → IsOrderly S c list → IsKept list k → IsKeptBefore list k a → IsKeptAfter list k b
    → MissesWithoutPlace S c list k ↔ (MissesSome S c list ⊎ IsWide S c (entry list a).0 (entry list b).0)
missed_without_one S c list k a b ok so kk before after =
    let w = set_without list k (entry list k).0 kk refl in
    let new = set list k ((entry list k).0, false) in
    let f = misses_new S c list new k w in
    let g = missed_without_mark S c list new k a b ok so w before after in
    (λ h. g.0 (f.1 h), λ h. f.0 (g.1 h))

-- whether a need is missed, with the mark of k
pub missed_with_small_gap : (S : List Point) (c : ℕ) (list new : List (ℕ × Bool)) (w : Bool) (k a b : ℕ) → AreAccepted S → IsWithout new list k → IsOrderly S c new → IsKeptBefore new k a → IsKeptAfter new k b
    → (IsTrue w ↔ MissesSome S c list) → (¬ IsWide S c (entry new a).0 (entry new b).0) → IsTrue w ↔ MissesSome S c new
missed_with_small_gap S c list new w k a b ok wo so before after answer small =
    let m = missed_without_mark S c new list k a b ok so wo before after in
    (λ t. elim (m.0 (answer.0 t)) [ inl g ↦ g | inr g ↦ absurd (small g) ], λ h. answer.1 (m.1 (inl h)))

-- without a kept position some need is missed where one is missed already, or where its own link says so
pub opens_answer : (S : List Point) (c : ℕ) (list : List (ℕ × Bool)) (links : List Link) (w : Bool) (k : ℕ) (b : Bool) → HasRightLinks S c list links w → IsKept list k → b ≡ (w || (link links k).opens) → IsTrue b ↔ MissesWithoutPlace S c list k
opens_answer S c list links w k b ar kk e = subst (λ z. IsTrue z ↔ MissesWithoutPlace S c list k) (sym e) (by_flag w refl)
  where
    l : Link
    l = link links k

    missed : MissesWithoutPlace S c list k ↔ (MissesSome S c list ⊎ IsWide S c l.before l.after)
    missed =
        let r = ar.right k kk in
        let m = missed_without_one S c list k r.first r.second ar.accepted ar.order kk r.before r.after in
        subst (λ x. MissesWithoutPlace S c list k ↔ (MissesSome S c list ⊎ IsWide S c l.before x)) r.after_name
        (subst (λ x. MissesWithoutPlace S c list k ↔ (MissesSome S c list ⊎ IsWide S c x (entry list r.second).0)) r.before_name m)

    by_flag : (v : Bool) → w ≡ v → IsTrue (v || l.opens) ↔ MissesWithoutPlace S c list k
    by_flag true h = (λ t. missed.1 (inl (ar.wide.0 h)), λ m. refl)
    by_flag false h = (
      λ t. missed.1 (inr ((ar.right k kk).opens.0 t)),
      λ m. elim (missed.0 m) [ inl g ↦ absurd (false≢true (sym h ∙ ar.wide.1 g)) | inr g ↦ (ar.right k kk).opens.1 g ],
    )

-- a star without neighbours
pub right_empty : (S : List Point) (c : ℕ) → AreAccepted S → c < length S → HasRightLinks S c [] [] true
right_empty S c ok hc =
    let so : IsOrderly S c [] = record {
      centre = hc;
      within = λ k h. absurd (omega arith);
      apart = λ k h. absurd (omega arith);
      order = λ i j ij h. absurd (omega arith);
      few = omega arith;
    } in
    record {
      accepted = ok;
      order = so;
      len = refl;
      right = λ k kk. absurd (let h = kk.0 in omega arith);
      wide = (λ t. (missed_with_wide_gap S c [] ok so).1 (inl (λ k kk. (let h = kk.0 in omega arith))), λ h. refl);
    }
