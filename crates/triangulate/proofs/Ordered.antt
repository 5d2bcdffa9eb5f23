-- The order of the sweep, as the code goes through it.
use Rattle.std.proofs.Common.{◌≡◌, ℕ, ◌<◌, ◌≤◌, ◌+◌, ◌-◌, inl, inr, List, [], ◌∷◌, length, get_or, sym, ◌∙◌, ap, refl, subst, arith}
use Rattle.std.specs.List.{Contains}
use Rattle.std.proofs.lemmas.Bool.{cases_order}
use Rattle.std.proofs.lemmas.Grind.{get_or_default_zero}
use Rattle.plane.specs.declared.coordinates.Point.{Point}
use Rattle.plane.specs.Geometry.{orientation}
use Rattle.plane.specs.Accepted.{AreApart, AreAccepted}
use Rattle.partition_defs.specs.Partition.{Joins}
use Rattle.partition_defs.specs.Sweep.{IsSweptBefore}
use Rattle.point_order.specs.Order.{IsSweepOrder}
use Rattle.triangulate.specs.Sides.{UpTo}
use Rattle.triangulate.specs.Swept.{opposite, IsSwept, IsSweptNext}
use Rattle.triangulate.proofs.Field.{Setting, not_both}
use Rattle.triangulate.proofs.Moves.{first}
use Rattle.triangulate.proofs.Places.{sweep_setting}

-- where a point stands in the order
pub record At (S : List Point) (order : List ℕ) (s : ℕ) : Type 0 where
  pub m : ℕ
  pub within : m < length order
  pub is : get_or order m 0 ≡ s

pub at_of : (S : List Point) (order : List ℕ) → IsSweepOrder S order → (s : ℕ) → s < length S → At S order s
at_of S order p s sn =
    let c : Contains order s = p.whole s sn in record { m = c.0; within = c.1; is = sym (get_or_default_zero order c.0 s c.1) ∙ c.2 }

-- a point before the one at k stands before k
pub stands_before : (S : List Point) (apart : AreApart S) (order : List ℕ) → IsSweepOrder S order → (k m : ℕ) → k < length order → m < length order
    → IsSweptBefore S (get_or order m 0) (get_or order k 0) → m < k
stands_before S apart order p k m hk hm h =
    let E : Setting = sweep_setting S apart in
    elim (cases_order m k) [
      | inl e ↦ absurd (E.irrefl (get_or order k 0) (subst (λ x. E.B (get_or order x 0) (get_or order k 0)) e h))
      | inr u ↦ elim u [ inl g ↦ g | inr g ↦ not_both E (get_or order m 0) (get_or order k 0) h (p.rising k m g hm) ]
    ]

pub none_before : (S : List Point) (apart : AreApart S) (order : List ℕ) → IsSweepOrder S order → 0 < length order → (s : ℕ) → s < length S → ¬ IsSweptBefore S s (get_or order 0 0)
none_before S apart order p h0 s sn h =
    let a : At S order s = at_of S order p s sn in
    let g : a.m < 0 = stands_before S apart order p 0 a.m h0 a.within (subst (λ x. IsSweptBefore S x (get_or order 0 0)) (sym a.is) h) in
    omega arith

up_to_index : (S : List Point) (order : List ℕ) → IsSweepOrder S order → (m k : ℕ) → k < length order → m ≤ k → UpTo (IsSweptBefore S) (get_or order m 0) (get_or order k 0)
up_to_index S order p m k hk h = elim (cases_order m k) [
  | inl e ↦ inl (ap (λ x. get_or order x 0) e)
  | inr u ↦ elim u [ inl g ↦ inr (p.rising m k g hk) | inr g ↦ absurd (omega arith) ]
]

pub next_of : (S : List Point) (apart : AreApart S) (order : List ℕ) → IsSweepOrder S order → (k : ℕ) → 0 < k → k < length order → IsSweptNext S (get_or order (k - 1) 0) (get_or order k 0)
next_of S apart order p k h0 hk = record {
  within = p.within k hk;
  before = p.rising (k - 1) k (omega arith) hk;
  next = λ s sn h.
      (let a : At S order s = at_of S order p s sn in
      let g : a.m < k = stands_before S apart order p k a.m hk a.within (subst (λ x. IsSweptBefore S x (get_or order k 0)) (sym a.is) h) in
      subst (λ x. UpTo (IsSweptBefore S) x (get_or order (k - 1) 0)) a.is (up_to_index S order p a.m (k - 1) (omega arith) (omega arith)));
}

pub all_of : (S : List Point) (order : List ℕ) → IsSweepOrder S order → (k : ℕ) → k + 1 ≡ length order → (s : ℕ) → s < length S → UpTo (IsSweptBefore S) s (get_or order k 0)
all_of S order p k e s sn =
    let a : At S order s = at_of S order p s sn in
    let hm : a.m < length order = a.within in
    subst (λ x. UpTo (IsSweptBefore S) x (get_or order k 0)) a.is (up_to_index S order p a.m k (omega arith) (omega arith))

none_joined : (p q : ℕ) → ¬ Joins [] p q
none_joined p q h = let g : h.0 < 0 = h.2 in omega arith

pub first_swept : (S : List Point) → AreAccepted S → (order : List ℕ) → IsSweepOrder S order → 0 < length order → IsSwept S [] (get_or order 0 0 ∷ []) (get_or order 0 0 ∷ []) (get_or order 0 0) 1
first_swept S acc order p h0 = record {
  apart = acc.apart;
  chains = (refl, refl, first (sweep_setting S acc.apart) (orientation S) (opposite S) (Joins []) (get_or order 0 0) (p.within 0 h0) (none_before S acc.apart order p h0) none_joined);
  distinct = λ i j d hij hj. absurd (omega arith);
  count = refl;
}
