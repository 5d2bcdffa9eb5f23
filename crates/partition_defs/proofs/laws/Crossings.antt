-- The pairs that join the ends of crossing segments cross.
use Rattle.std.proofs.Common.{ℕ, List, inl, inr, sym, subst}
use Rattle.plane.specs.declared.coordinates.Point.{Point}
use Rattle.plane.specs.declared.segment.Pair.{Pair}
use Rattle.plane.specs.Geometry.{point, AreCrossing}
use Rattle.plane.proofs.laws.Crossings.{cross_first, cross_second}
use Rattle.partition_defs.specs.Partition.{HasEnds}

pub crossing_ends : (S : List Point) (e f : Pair) (a b c d : ℕ) → HasEnds e a b → HasEnds f c d → AreCrossing S a b c d → AreCrossing S e.lo e.hi f.lo f.hi
crossing_ends S e f a b c d he hf h = second hf (first he h)
  where
    first : HasEnds e a b → AreCrossing S a b c d → AreCrossing S e.lo e.hi c d
    first (inl (x, y)) k = let P : ℕ → Type 0 = λ i. AreCrossing S i e.hi c d in let Q : ℕ → Type 0 = λ i. AreCrossing S a i c d in subst P (sym x) (subst Q (sym y) k)
    first (inr (x, y)) k = let P : ℕ → Type 0 = λ i. AreCrossing S i e.hi c d in let Q : ℕ → Type 0 = λ i. AreCrossing S b i c d in subst P (sym x) (subst Q (sym y) (cross_first (point S a) (point S b) (point S c) (point S d) k))

    second : HasEnds f c d → AreCrossing S e.lo e.hi c d → AreCrossing S e.lo e.hi f.lo f.hi
    second (inl (x, y)) k = let P : ℕ → Type 0 = λ i. AreCrossing S e.lo e.hi i f.hi in let Q : ℕ → Type 0 = λ i. AreCrossing S e.lo e.hi c i in subst P (sym x) (subst Q (sym y) k)
    second (inr (x, y)) k = let P : ℕ → Type 0 = λ i. AreCrossing S e.lo e.hi i f.hi in let Q : ℕ → Type 0 = λ i. AreCrossing S e.lo e.hi d i in subst P (sym x) (subst Q (sym y) (cross_second (point S e.lo) (point S e.hi) (point S c) (point S d) k))
