-- The needs of an inner point that is between no two others are met by three segments at least.
use Rattle.std.proofs.Common.{◌≢◌, ℕ, ◌<◌, ◌≤◌, inl, inr, pos, List, length, sym, subst, arith}
use Rattle.std.specs.Prelude.{◌<ℤ◌}
use Rattle.std.proofs.lemmas.Int.{ints}
use Rattle.number_laws.proofs.Naturals.{another}
use Rattle.plane.specs.declared.coordinates.Point.{Point}
use Rattle.plane.specs.declared.segment.Pair.{Pair}
use Rattle.plane.specs.Geometry.{point, orientation}
use Rattle.plane.proofs.laws.Area.{area_swap, area_second}
use Rattle.partition_defs.specs.Partition.{Joins, IsMet, MeetsNeedsAt}
use Rattle.price_defs.specs.Laws.{HasThree}
use Rattle.price_defs.specs.Rows.{IsAlone}

-- the need of an alone point is met strictly to the left
record MeetsLeft (S : List Point) (K : List Pair) (p q : ℕ) : Type 0 where
  pub r : ℕ
  pub within : r < length S
  pub joins : Joins K p r
  pub apart : r ≢ p
  pub left : pos 0 <ℤ orientation S p q r

meets_left : (S : List Point) (K : List Pair) (p : ℕ) → IsAlone S p → MeetsNeedsAt S K p → (q : ℕ) → q < length S → q ≢ p → MeetsLeft S K p q
meets_left S K p alone met q l ne =
    let m : IsMet S K p q = met q l ne in
    elim m.3.1 [
      | inl h ↦ record { r = m.0; within = m.1; joins = m.2; apart = m.3.0; left = h }
      | inr b ↦ absurd (alone q m.0 l m.1 b)
    ]

no_zero_left : (S : List Point) (p q r : ℕ) → pos 0 <ℤ orientation S p q r → q ≢ r
no_zero_left S p q r h e =
    let k : pos 0 <ℤ orientation S p q q = subst (λ x. pos 0 <ℤ orientation S p q x) (sym e) h in
    absurd (omega (arith, ints, area_second (point S p) (point S q)))

pub three_at : (S : List Point) (K : List Pair) (p : ℕ) → 3 ≤ length S → IsAlone S p → MeetsNeedsAt S K p → HasThree K p
three_at S K p many alone met =
    let q : (q : ℕ) × (q < length S) × (q ≢ p) = another (length S) p (omega (arith, many)) in
    let a : MeetsLeft S K p q.0 = meets_left S K p alone met q.0 q.1 q.2 in
    let b : MeetsLeft S K p a.r = meets_left S K p alone met a.r a.within a.apart in
    let c : MeetsLeft S K p b.r = meets_left S K p alone met b.r b.within b.apart in
    record {
      a = a.r;
      b = b.r;
      c = c.r;
      at_a = a.joins;
      at_b = b.joins;
      at_c = c.joins;
      ab = no_zero_left S p a.r b.r b.left;
      bc = no_zero_left S p b.r c.r c.left;
      ac = λ e. (let k : pos 0 <ℤ orientation S p b.r a.r = subst (λ x. pos 0 <ℤ orientation S p b.r x) (sym e) c.left in
          absurd (omega (arith, ints, area_swap (point S p) (point S b.r) (point S a.r), b.left)));
    }
