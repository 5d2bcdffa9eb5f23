-- Pairs cross as the segments of their ends do, in any order.
use Rattle.std.proofs.Common.{◌≡◌, ℕ, inl, inr, List, subst, sym, ◌∙◌, ap}
use Rattle.std.proofs.lemmas.List.{get_or_default}
use Rattle.plane.specs.declared.coordinates.Point.{Point}
use Rattle.plane.specs.declared.segment.Pair.{Pair}
use Rattle.plane.specs.Geometry.{point, area, AreCrossing, DoCross}
use Rattle.plane.proofs.laws.Area.{area_first, area_second}
use Rattle.plane.proofs.laws.Crossings.{cross_first, cross_second}
use Rattle.plane.proofs.laws.Opposite.{not_opposite_zero, zero_not_opposite}
use Rattle.crossings.specs.declared.segments.Segment.{Segment}
use Rattle.crossings.specs.Crossings.{IsPairAt, DoCrossAt}
use Rattle.crossings.specs.Segments.{AreEndsOf, IsSegment}
use Rattle.crossings.specs.Trying.{HaveCommonEnd}

pub stands_same : (K : List Pair) (k : ℕ) (e f : Pair) → IsPairAt K k e → IsPairAt K k f → e ≡ f
stands_same K k e f g h = sym g.1 ∙ get_or_default K k e f g.0 ∙ h.1

pub crossing_here : (S : List Point) (K : List Pair) (a b : ℕ) (e f : Pair) → IsPairAt K a e → IsPairAt K b f
    → DoCrossAt S K a b → AreCrossing S e.lo e.hi f.lo f.hi
crossing_here S K a b e f se sf h =
    let P : Pair → Type 0 = λ x. AreCrossing S x.lo x.hi f.lo f.hi in
    let Q : Pair → Type 0 = λ y. AreCrossing S h.0.lo h.0.hi y.lo y.hi in
    subst P (stands_same K a h.0 e h.2 se) (subst Q (stands_same K b h.1 f h.3 sf) h.4)

first_ends : (S : List Point) (e : Pair) (p q c d : Point) → AreEndsOf S e p q → DoCross (point S e.lo) (point S e.hi) c d → DoCross p q c d
first_ends S e p q c d (inl h) x =
    let P : Point → Type 0 = λ u. DoCross u q c d in let Q : Point → Type 0 = λ u. DoCross (point S e.lo) u c d in
    subst P (sym h.0) (subst Q (sym h.1) x)
first_ends S e p q c d (inr h) x =
    let P : Point → Type 0 = λ u. DoCross u q c d in let Q : Point → Type 0 = λ u. DoCross (point S e.hi) u c d in
    subst P (sym h.0) (subst Q (sym h.1) (cross_first (point S e.lo) (point S e.hi) c d x))

second_ends : (S : List Point) (e : Pair) (p q c d : Point) → AreEndsOf S e p q → DoCross c d (point S e.lo) (point S e.hi) → DoCross c d p q
second_ends S e p q c d (inl h) x =
    let P : Point → Type 0 = λ u. DoCross c d u q in let Q : Point → Type 0 = λ u. DoCross c d (point S e.lo) u in
    subst P (sym h.0) (subst Q (sym h.1) x)
second_ends S e p q c d (inr h) x =
    let P : Point → Type 0 = λ u. DoCross c d u q in let Q : Point → Type 0 = λ u. DoCross c d (point S e.hi) u in
    subst P (sym h.0) (subst Q (sym h.1) (cross_second c d (point S e.lo) (point S e.hi) x))

pub crossing_of_ends : (S : List Point) (K : List Pair) (z w : Segment) → IsSegment S K z → IsSegment S K w → DoCrossAt S K z.place w.place → DoCross z.from z.to w.from w.to
crossing_of_ends S K z w hz hw h =
    second_ends S hw.0 w.from w.to z.from z.to hw.2
    (first_ends S hz.0 z.from z.to (point S hw.0.lo) (point S hw.0.hi) hz.2 (crossing_here S K z.place w.place hz.0 hw.0 hz.1 hw.1 h))

-- crossing has no order
pub crossing_back : (S : List Point) (K : List Pair) (a b : ℕ) → DoCrossAt S K a b → DoCrossAt S K b a
crossing_back S K a b h = (h.1, h.0, h.3, h.2, (h.4.1, h.4.0))

-- pairs with a common end don't cross
pub common_end : (S : List Point) (e f : Pair) → HaveCommonEnd e f → ¬ AreCrossing S e.lo e.hi f.lo f.hi
common_end S e f (inl (inl h)) c = not_opposite_zero _ _ (ap (λ i. area (point S e.lo) (point S e.hi) (point S i)) (sym h) ∙ area_first (point S e.lo) (point S e.hi)) c.0
common_end S e f (inl (inr h)) c = zero_not_opposite _ _ (ap (λ i. area (point S e.lo) (point S e.hi) (point S i)) (sym h) ∙ area_first (point S e.lo) (point S e.hi)) c.0
common_end S e f (inr (inl h)) c = not_opposite_zero _ _ (ap (λ i. area (point S e.lo) (point S e.hi) (point S i)) (sym h) ∙ area_second (point S e.lo) (point S e.hi)) c.0
common_end S e f (inr (inr h)) c = zero_not_opposite _ _ (ap (λ i. area (point S e.lo) (point S e.hi) (point S i)) (sym h) ∙ area_second (point S e.lo) (point S e.hi)) c.0
