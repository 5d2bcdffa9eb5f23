-- In a triangulation the neighbour after q in the star of p is the apex of p to q, where it is left of p to q.
use Rattle.std.proofs.Common.{◌≡◌, ◌≢◌, ℕ, ◌+◌, ◌<◌, List, length, ℤ, pos, neg_ℤ, ◌<ℤ◌, ◌≤ℤ◌, ◌⊎◌, inl, inr, arith, sym, ◌∙◌, ap, subst, refl, Some, None}
use Rattle.std.proofs.lemmas.Int.{ints}
use Rattle.plane.specs.declared.coordinates.Point.{Point}
use Rattle.plane.specs.declared.segment.Pair.{Pair}
use Rattle.plane.specs.Geometry.{point, area, orientation, AreCrossing}
use Rattle.number_laws.proofs.Naturals.{equal_or_not}
use Rattle.number_laws.proofs.Signs.{negative_or}
use Rattle.plane.proofs.laws.Area.{area_cycle, area_swap, area_first, area_second}
use Rattle.partition_defs.specs.Partition.{Joins}
use Rattle.partition_defs.specs.Triangulation.{IsTriangulation, IsApex, HasLeft}
use Rattle.partition_defs.proofs.laws.Has.{contains_of}
use Rattle.partition_defs.proofs.laws.Joined.{joined}
use Rattle.star.specs.Stars.{Seen, StandsAt, IsNext, entry, around}
use Rattle.star.specs.StarOf.{IsStarOf}
use Rattle.partition_defs.proofs.laws.Crossings.{crossing_ends}
use Rattle.star.proofs.Cyclic.{IsAmid, next_or_amid, around_inside}

-- no neighbour of p stands between the sides of the triangle of an apex
pub none_amid : (S : List Point) (T : List Pair) (p q a s : ℕ) → IsTriangulation S T → IsApex S T p q a → s < length S → Joins T p s → ¬ IsAmid (point S p) (point S q) (point S s) (point S a)
none_amid S T p q a s tri apex hs join amid =
    let back : area (point S a) (point S p) (point S s) ≡ area (point S p) (point S s) (point S a) = area_cycle (point S a) (point S p) (point S s) in
    let turn : area (point S p) (point S s) (point S q) ≡ neg_ℤ (area (point S p) (point S q) (point S s)) = area_swap (point S p) (point S s) (point S q) in
    let round : area (point S p) (point S q) (point S a) ≡ area (point S q) (point S a) (point S p) = area_cycle (point S p) (point S q) (point S a) in
    elim (negative_or (area (point S q) (point S a) (point S s))) [
      | inl beyond ↦ (
          let (e, me, ends) = joined T p s join in
          let (f, mf, sides) = joined T q a apex.second in
          let crossing : AreCrossing S p s q a = (inl (omega (arith, ints, amid.0), amid.1), inr (omega (arith, ints, apex.left), beyond)) in
          tri.plane e f (contains_of T e me) (contains_of T f mf) (crossing_ends S e f p s q a ends sides crossing))
      | inr rest ↦ apex.empty s hs
          (λ h. (let z = area_first (point S p) (point S q) in positive_not (area (point S p) (point S q) (point S s)) (ap (λ i. area (point S p) (point S q) (point S i)) h ∙ z) amid.0))
          (λ h. (let z = area_second (point S p) (point S q) in positive_not (area (point S p) (point S q) (point S s)) (ap (λ i. area (point S p) (point S q) (point S i)) h ∙ z) amid.0))
          (λ h. (let z = area_second (point S p) (point S a) in positive_not (area (point S p) (point S s) (point S a)) (ap (λ i. area (point S p) (point S i) (point S a)) h ∙ z) amid.1))
          (omega (arith, ints, amid.0), weak (area (point S q) (point S a) (point S s)) rest, omega (arith, ints, amid.1))
    ]
  where
    positive_not : (z : ℤ) → z ≡ pos 0 → ¬ (pos 0 <ℤ z)
    positive_not z e h = omega (arith, ints)

    weak : (z : ℤ) → (z ≡ pos 0) ⊎ (pos 0 <ℤ z) → pos 0 ≤ℤ z
    weak z (inl h) = omega (arith, ints)
    weak z (inr h) = omega (arith, ints)

-- an apex of p to q is the neighbour after q
pub apex_is_next : (S : List Point) (T K : List Pair) (p q a k : ℕ) (s : Seen) → IsTriangulation S T → IsStarOf S T K p s → StandsAt s k q → IsApex S T p q a → a ≡ (entry s.list (around (length s.list) (k + 1))).0
apex_is_next S T K p q a k s tri so stands apex =
    let (j, place) = (so.neighbours a).1 apex.first in
    let hj = place.0 in
    let at = place.1 in
    elim (equal_or_not j (around (length s.list) (k + 1))) [
      | inl e ↦ sym at ∙ ap (λ i. (entry s.list i).0) e
      | inr ne ↦ absurd (between j hj at ne)
    ]
  where
    between : (j : ℕ) → j < length s.list → (entry s.list j).0 ≡ a → j ≢ around (length s.list) (k + 1) → ⊥
    between j hj at ne =
        let m = around (length s.list) (k + 1) in
        let r = (entry s.list m).0 in
        let hm = around_inside (length s.list) k stands.0 in
        let left : pos 0 <ℤ orientation s.points s.centre (entry s.list k).0 (entry s.list j).0 =
        (let A : List Point → Type 0 = λ P. pos 0 <ℤ orientation P s.centre (entry s.list k).0 (entry s.list j).0 in
        let B : ℕ → Type 0 = λ c. pos 0 <ℤ orientation S c (entry s.list k).0 (entry s.list j).0 in
        let C : ℕ → Type 0 = λ x. pos 0 <ℤ orientation S p x (entry s.list j).0 in
        let D : ℕ → Type 0 = λ x. pos 0 <ℤ orientation S p q x in
        subst A (sym so.points) (subst B (sym so.centre) (subst C (sym stands.1) (subst D (sym at) apex.left)))) in
        let apart : j ≢ k = λ e. (let same : a ≡ q = sym at ∙ ap (λ i. (entry s.list i).0) e ∙ stands.1 in
        let z = area_swap (point S p) (point S q) (point S q) in
        let flat : orientation S p q a ≡ orientation S p q q = ap (λ i. orientation S p q i) same in
        omega (arith, ints, apex.left, z, flat)) in
        let amid = next_or_amid s k j so.star stands.0 hj apart ne left in
        let A : List Point → Type 0 = λ P. IsAmid (point P s.centre) (point P (entry s.list k).0) (point P r) (point P (entry s.list j).0) in
        let B : ℕ → Type 0 = λ c. IsAmid (point S c) (point S (entry s.list k).0) (point S r) (point S (entry s.list j).0) in
        let C : ℕ → Type 0 = λ x. IsAmid (point S p) (point S x) (point S r) (point S (entry s.list j).0) in
        let D : ℕ → Type 0 = λ x. IsAmid (point S p) (point S q) (point S r) (point S x) in
        let inside : r < length S = subst (λ P. r < length P) so.points (so.star.within m hm) in
        none_amid S T p q a r tri apex inside ((so.neighbours r).0 (m, (hm, refl))) (subst D at (subst C stands.1 (subst B so.centre (subst A so.points amid))))

-- the neighbour after q is the apex where it is left of p to q
pub apex_left : (S : List Point) (T K : List Pair) (p q r : ℕ) (s : Seen) → IsTriangulation S T → IsStarOf S T K p s → IsNext s q (Some r) → pos 0 <ℤ orientation S p q r → Joins T p q × IsApex S T p q r × ((a : ℕ) → IsApex S T p q a → a ≡ r)
apex_left S T K p q r s tri so (k, stands, is) left =
    let join = (so.neighbours q).0 (k, stands) in
    let m = around (length s.list) (k + 1) in
    let hm = around_inside (length s.list) k stands.0 in
    let inside : r < length S = subst (λ x. x < length S) (sym is) (subst (λ P. (entry s.list m).0 < length P) so.points (so.star.within m hm)) in
    let (a, apex) = tri.apex p q join (r, inside, left) in
    let only : (b : ℕ) → IsApex S T p q b → b ≡ r = λ b h. apex_is_next S T K p q b k s tri so stands h ∙ sym is in
    (join, subst (λ x. IsApex S T p q x) (only a apex) apex, only)

pub apex_none : (S : List Point) (T K : List Pair) (p q r : ℕ) (s : Seen) → IsTriangulation S T → IsStarOf S T K p s → IsNext s q (Some r) → ¬ (pos 0 <ℤ orientation S p q r) → Joins T p q → ¬ HasLeft S p q
apex_none S T K p q r s tri so (k, stands, is) right = λ join left.
    let (a, apex) = tri.apex p q join left in
    let same : a ≡ r = apex_is_next S T K p q a k s tri so stands apex ∙ sym is in
    right (subst (λ x. pos 0 <ℤ orientation S p q x) same apex.left)

pub apex_apart : (S : List Point) (T K : List Pair) (p q : ℕ) (s : Seen) → IsStarOf S T K p s → IsNext s q None → Joins T p q → ¬ HasLeft S p q
apex_apart S T K p q s so none = λ join left. none ((so.neighbours q).1 join)
