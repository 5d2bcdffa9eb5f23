-- The points in order, as they are seen: forward as they are, backward turned by half a turn.
use Rattle.std.proofs.Common.{◌≡◌, ◌≢◌, ℕ, ◌<◌, ◌-◌, sym, ◌∙◌, ap, subst, subst₂, List, length, Bool, true, false, arith}
use Rattle.std.specs.List.{ReversedBelow}
use Rattle.std.proofs.lemmas.List.{get_or_default}
use Rattle.plane.specs.declared.coordinates.Point.{Point}
use Rattle.plane.specs.Geometry.{point}
use Rattle.plane_laws.specs.Order.{IsBefore}
use Rattle.point_order.specs.Order.{IsSweepOrder}
use Rattle.border.specs.Cycle.{at}
use Rattle.border.specs.Walk.{seen, AreFirstAndLast}
use Rattle.border.specs.Chain.{IsInOrder, seen_at}
use Rattle.border.proofs.Turned.{turned_back}

-- the order of the sweep is that of the points as they are
pub seen_in_order : (S : List Point) (O : List ℕ) → IsSweepOrder S O → IsInOrder S true O
seen_in_order S O order = record {
  count = order.count;
  within = λ k h. order.within k h;
  whole = λ v h. (let (k, hk, e) = order.whole v h in (k, hk, get_or_default O k 0 v hk ∙ e));
  rising = λ j k jk hk. order.rising j k jk hk;
}

-- the points the other way round are in order, turned by half a turn
pub order_turned : (S : List Point) (O R : List ℕ) → IsInOrder S true O → length R ≡ length O → ReversedBelow O R (length O) → IsInOrder S false R
order_turned S O R order len back =
    let place : (k : ℕ) → k < length O → at R k ≡ at O (length O - 1 - k) = λ k h. back k 0 h in
    record {
      count = len ∙ order.count;
      within = λ k hk. (let h : k < length O = omega arith in subst (λ x. x < length S) (sym (place k h)) (order.within (length O - 1 - k) (omega arith)));
      whole = λ v hv. (let (k, hk, e) = order.whole v hv in let h : length O - 1 - k < length O = omega arith in
          let f : length O - 1 - (length O - 1 - k) ≡ k = omega arith in
          (length O - 1 - k, omega arith, place (length O - 1 - k) h ∙ ap (at O) f ∙ e));
      rising = λ j k jk hk. (let h : k < length O = omega arith in let hj : j < length O = omega arith in
          subst₂ (λ x y. IsBefore (seen S false x) (seen S false y)) (sym (place j hj)) (sym (place k h))
          (turned_back (point S (at O (length O - 1 - j))) (point S (at O (length O - 1 - k))) (order.rising (length O - 1 - k) (length O - 1 - j) (omega arith) (omega arith))));
    }

-- the first and the last point in order
pub ends_of : (S : List Point) (b : Bool) (O : List ℕ) → IsInOrder S b O → 0 < length O → AreFirstAndLast S b (at O 0) (at O (length O - 1))
ends_of S b O order some = record {
  from_in = order.within 0 some;
  to_in = order.within (length O - 1) (omega arith);
  first = λ v hv ne. (let (k, hk, e) = order.whole v hv in
      let later : 0 < k = (let other : k ≢ 0 = λ z. ne (sym e ∙ ap (at O) z) in grind arith) in
      subst (λ x. IsBefore (seen_at S b O 0) (seen S b x)) e (order.rising 0 k later hk));
  last = λ v hv ne. (let (k, hk, e) = order.whole v hv in
      let sooner : k < length O - 1 = (let other : k ≢ length O - 1 = λ z. ne (sym e ∙ ap (at O) z) in grind arith) in
      subst (λ x. IsBefore (seen S b x) (seen_at S b O (length O - 1))) e (order.rising k (length O - 1) sooner (omega arith)));
}
