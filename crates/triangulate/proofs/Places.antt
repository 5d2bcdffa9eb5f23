-- The points of the plane in the order of the sweep.
use Rattle.std.proofs.Common.{inl, inr, sym, refl, List, length, arith}
use Rattle.std.proofs.lemmas.Int.{ints}
use Rattle.plane.specs.declared.coordinates.Point.{Point}
use Rattle.plane.specs.Geometry.{point, orientation}
use Rattle.plane.specs.Accepted.{AreApart}
use Rattle.partition_defs.specs.Sweep.{IsSweptBefore}
use Rattle.plane_laws.specs.Order.{IsBefore}
use Rattle.plane_laws.proofs.Orientations.{in_order}
use Rattle.point_order.proofs.laws.Places.{places}
use Rattle.triangulate.proofs.Field.{Setting, Laws, AreTurned, turned_laws}
use Rattle.triangulate.specs.Swept.{opposite}
use Rattle.plane.proofs.laws.Area.{area_cycle, area_back}
use Rattle.plane_laws.proofs.Order.{before_trans}

pub before_irrefl : (p : Point) → ¬ IsBefore p p
before_irrefl p (inl h) = omega (arith, ints)
before_irrefl p (inr h) = omega (arith, ints, h.1)

-- the points in the order of the sweep
abbrev pub sweep_setting : (S : List Point) → AreApart S → Setting
sweep_setting S apart = record {
  n = length S;
  B = IsSweptBefore S;
  trans = λ i j k g h. before_trans (point S i) (point S j) (point S k) g h;
  irrefl = λ i h. before_irrefl (point S i) h;
  place = places S apart;
}

pub plane_laws : (S : List Point) (apart : AreApart S) → Laws (sweep_setting S apart) (orientation S)
plane_laws S apart = record {
  cycle = λ i j k. sym (area_cycle (point S i) (point S j) (point S k));
  swap = λ i j k. area_back (point S j) (point S i) (point S k);
  order = λ i j k l p q r. in_order (point S i) (point S j) (point S k) (point S l) p q r;
}

pub opposite_laws : (S : List Point) (apart : AreApart S) → Laws (sweep_setting S apart) (opposite S)
opposite_laws S apart = turned_laws (sweep_setting S apart) (orientation S) (plane_laws S apart)

pub opposite_turned : (S : List Point) → AreTurned (orientation S) (opposite S)
opposite_turned S i j k = refl
