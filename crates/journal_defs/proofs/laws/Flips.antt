-- A legal flip told of pairs is one told of their ends.
use Rattle.std.proofs.Common.{ℕ, inl, inr, List, refl, arith, subst, sym}
use Rattle.plane.specs.declared.coordinates.Point.{Point}
use Rattle.plane.specs.declared.segment.Pair.{Pair}
use Rattle.plane.specs.Geometry.{AreCrossing}
use Rattle.plane_laws.specs.Quads.{AreEnds}
use Rattle.partition_defs.specs.Partition.{HasEnds}
use Rattle.partition_defs.specs.Flips.{IsFlip}
use Rattle.partition_defs.proofs.laws.Has.{contains_of}
use Rattle.partition_defs.proofs.laws.Joined.{joined, contains_joins, joins_contains}
use Rattle.partition_defs.proofs.laws.Net.{ends_or}
use Rattle.partition_defs.proofs.laws.Flips.{pair_of_ends, ends_of_pair, crossing_swap}
use Rattle.journal_defs.specs.Edits.{State, IsSpare, IsLegalFlip}

pub flip_of_legal : (S : List Point) (s : State) (e f : Pair) → IsLegalFlip S s e f → IsFlip S s.all e.lo e.hi f.lo f.hi
flip_of_legal S s e f h = record {
  c_in = omega (arith, f.ordered, h.within);
  d_in = h.within;
  joined = contains_joins s.all e h.spare.there;
  fresh = λ k. h.fresh (joins_contains s.all f k);
  clear = h.clear;
  crosses = h.crosses;
  alone = λ i j k x. ends_or e.lo e.hi i j (λ a b. inl (a, b)) (λ a b. inr (a, b))
      (λ other. (let (g, m, ends) = joined s.all i j k in
      absurd (h.alone g (contains_of s.all g m) (λ q. other (subst (λ (z : Pair). AreEnds z.lo z.hi i j) q (ends_of_pair g i j ends))) (at_ends g i j ends x))));
}
  where
    at_ends : (g : Pair) (i j : ℕ) → HasEnds g i j → AreCrossing S f.lo f.hi i j → AreCrossing S f.lo f.hi g.lo g.hi
    at_ends g i j (inl w) x = subst (λ z. AreCrossing S f.lo f.hi z g.hi) (sym w.0) (subst (λ z. AreCrossing S f.lo f.hi i z) (sym w.1) x)
    at_ends g i j (inr w) x =
        subst (λ z. AreCrossing S f.lo f.hi z g.hi) (sym w.0) (subst (λ z. AreCrossing S f.lo f.hi j z) (sym w.1) (crossing_swap S f.lo f.hi i j x))

pub legal_of_flip : (S : List Point) (s : State) (e f : Pair) → IsSpare s e → IsFlip S s.all e.lo e.hi f.lo f.hi → IsLegalFlip S s e f
legal_of_flip S s e f spare h = record {
  spare = spare;
  fresh = λ k. h.fresh (contains_joins s.all f k);
  within = h.d_in;
  clear = h.clear;
  crosses = h.crosses;
  alone = λ g k ne x. ne (pair_of_ends g e g.lo g.hi (inl (refl, refl)) (h.alone g.lo g.hi (contains_joins s.all g k) x));
}
