-- Triangles and quadrilaterals of points, without any set of segments.
use Rattle.std.proofs.Common.{◌≡◌, ℕ, pos, ◌<◌, ◌⊎◌, inl, inr, List, length}
use Rattle.std.specs.Prelude.{◌<ℤ◌}
use Rattle.plane.specs.declared.coordinates.Point.{Point}
use Rattle.plane.specs.Geometry.{point, orientation, AreCrossing, IsBetween, IsClear, IsInTriangle, IsEmptyTriangle}
use Rattle.plane.proofs.laws.Along.{between_swap}
use Rattle.plane_laws.specs.Quads.{AreEnds, IsConvexQuad, CrossesSide}
use Rattle.plane_laws.proofs.Field.{Laws, Over, over_back, over_of, over_cross, over_cross_back, exit}
use Rattle.plane_laws.proofs.Four.{Four, four_turned, over_after, empty_after, clear_after, end_after}
use Rattle.plane_laws.proofs.Places.{plane_laws}
use Rattle.number_laws.proofs.Signs.{not_both_positive, turned_high}

crossing : (S : List Point) (p q u v : ℕ) → Over (orientation S) p q u v → AreCrossing S p q u v
crossing S p q u v x = over_cross (orientation S) (IsBetween S) (plane_laws S) p q u v x

crossing_back : (S : List Point) (p q u v : ℕ) → Over (orientation S) q p u v → AreCrossing S p q u v
crossing_back S p q u v x = over_cross_back (orientation S) (IsBetween S) (plane_laws S) p q u v x

pub leaves : (S : List Point) (p q r u v : ℕ) → pos 0 <ℤ orientation S p q r → AreCrossing S p q u v → pos 0 <ℤ orientation S p q v
    → IsInTriangle S p q r v ⊎ (AreCrossing S q r u v ⊎ (AreCrossing S r p u v ⊎ IsBetween S r u v))
leaves S p q r u v ccw x beyond =
    let L : Laws (orientation S) (IsBetween S) = plane_laws S in
    over_of (orientation S) (IsBetween S) L p q u v x.0 x.1
    (λ y. exit (orientation S) (IsBetween S) L p q r u v ccw y
    (λ g. inl g)
    (λ g. inr (inl (crossing_back S q r u v g)))
    (λ g. inr (inr (inl (crossing_back S r p u v g))))
    (λ g. inr (inr (inr g))))
    (λ y. not_both_positive (orientation S q p v) (orientation S p q v) (L.swap p q v) y.end beyond)

four_of : (S : List Point) (a b c d : ℕ) → IsConvexQuad S a b c d → Four (length S) (orientation S) a b c d
four_of S a b c d h = record {
  left = h.left;
  right = h.right;
  first = turned_high (orientation S c d a) (orientation S d c a) ((plane_laws S).swap d c a) h.first_side;
  second = h.second_side;
  left_empty = λ s sn a b c g. h.left_empty s sn a b c g;
  right_empty = λ s sn a b c g. h.right_empty s sn a b c g;
}

pub after : (S : List Point) (a b c d : ℕ) → IsConvexQuad S a b c d → IsEmptyTriangle S c d b × IsEmptyTriangle S d c a × IsClear S c d × AreCrossing S c d a b
after S a b c d h =
    let L : Laws (orientation S) (IsBetween S) = plane_laws S in
    let Q : Four (length S) (orientation S) a b c d = four_of S a b c d h in (
      (λ s sn x y z g. empty_after (length S) (orientation S) (IsBetween S) L a b c d Q s sn x y z g),
      (λ s sn x y z g. empty_after (length S) (orientation S) (IsBetween S) L b a d c (four_turned (length S) (orientation S) a b c d Q) s sn x y z g),
      (λ k kn g. clear_after (length S) (orientation S) (IsBetween S) L a b c d Q k kn g),
      crossing S c d a b (over_after (length S) (orientation S) a b c d Q),
    )

-- u on the side of a, v on that of b
from_over : (S : List Point) (a b c d u v : ℕ) → Four (length S) (orientation S) a b c d → u < length S → v < length S → ¬ IsBetween S a u v → ¬ IsBetween S b u v
    → Over (orientation S) c d u v → ((u ≡ a) × (v ≡ b)) ⊎ CrossesSide S a b c d u v
from_over S a b c d u v Q un vn na nb x =
    let L : Laws (orientation S) (IsBetween S) = plane_laws S in
    let R : Four (length S) (orientation S) b a d c = four_turned (length S) (orientation S) a b c d Q in
    end_after (length S) (orientation S) (IsBetween S) L a b c d u v Q vn x
    (λ e. end_after (length S) (orientation S) (IsBetween S) L b a d c v u R un (over_back (orientation S) c d u v x)
    (λ f. inl (f, e))
    (λ g. inr (inl (inl (crossing_back S a c u v (over_back (orientation S) a c v u g)))))
    (λ g. inr (inr (inl (crossing S a d u v (over_back (orientation S) d a v u g)))))
    (λ g. absurd (na (between_swap (point S a) (point S v) (point S u) g))))
    (λ g. inr (inr (inr (crossing S b d u v g))))
    (λ g. inr (inl (inr (crossing_back S b c u v g))))
    (λ g. absurd (nb g))

swapped : (S : List Point) (a b c d u v : ℕ) → AreEnds a b v u ⊎ CrossesSide S a b c d v u → AreEnds a b u v ⊎ CrossesSide S a b c d u v
swapped S a b c d u v h = elim h [
  | inl e ↦ inl (elim e [ inl w ↦ inr (w.1, w.0) | inr w ↦ inl (w.1, w.0) ])
  | inr e ↦ inr (elim e [
    | inl w ↦ inl (elim w [ inl x ↦ inl (turned a c x) | inr x ↦ inr (turned b c x) ])
    | inr w ↦ inr (elim w [ inl x ↦ inl (turned a d x) | inr x ↦ inr (turned b d x) ])
  ])
]
  where
    turned : (p q : ℕ) → AreCrossing S p q v u → AreCrossing S p q u v
    turned p q x = over_of (orientation S) (IsBetween S) (plane_laws S) p q v u x.0 x.1
        (λ y. crossing_back S p q u v (over_back (orientation S) p q v u y))
        (λ y. crossing S p q u v (over_back (orientation S) q p v u y))

pub alone : (S : List Point) (a b c d u v : ℕ) → IsConvexQuad S a b c d → u < length S → v < length S → ¬ IsBetween S a u v → ¬ IsBetween S b u v
    → AreCrossing S c d u v → AreEnds a b u v ⊎ CrossesSide S a b c d u v
alone S a b c d u v h un vn na nb x =
    over_of (orientation S) (IsBetween S) (plane_laws S) c d u v x.0 x.1
    (λ y. elim (from_over S a b c d u v (four_of S a b c d h) un vn na nb y) [ inl w ↦ inl (inl w) | inr w ↦ inr w ])
    (λ y. swapped S a b c d u v (elim (from_over S a b c d v u (four_of S a b c d h) vn un (off a na) (off b nb) (over_back (orientation S) d c u v y)) [ inl w ↦ inl (inl w) | inr w ↦ inr w ]))
  where
    off : (k : ℕ) → ¬ IsBetween S k u v → ¬ IsBetween S k v u
    off k n g = n (between_swap (point S k) (point S v) (point S u) g)
