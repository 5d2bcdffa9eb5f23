-- Halving in turning order.
use Rattle.std.proofs.Common.{◌≡◌, ◌≢◌, ℕ, ◌+◌, ◌<◌, ◌≤◌, Bool, List, length, inl, inr, arith, sym, subst}
use Rattle.std.proofs.lemmas.Bool.{cases_lt}
use Rattle.plane.specs.declared.coordinates.Point.{Point}
use Rattle.plane.specs.Geometry.{point}
use Rattle.star.specs.Turn.{IsBeforeInTurn, IsInDirection}
use Rattle.star.specs.Stars.{entry, IsOrderly}
use Rattle.star.proofs.laws.Turning.{before_on, before_or, never_before_itself}
use Rattle.plane.specs.Accepted.{AreAccepted}
use Rattle.plane.proofs.laws.Border.{points_differ}
use Rattle.star.specs.Links.{IsSeat}
use Rattle.number_laws.proofs.Naturals.{equal_or_not}

pub passed_more : (S : List Point) (c : ℕ) (list : List (ℕ × Bool)) (q mid j : ℕ) → IsOrderly S c list → mid < length list → IsBeforeInTurn S c (entry list mid).0 q → j < mid + 1 → IsBeforeInTurn S c (entry list j).0 q
passed_more S c list q mid j so hm before h = elim (equal_or_not j mid) [
  | inl e ↦ subst (λ i. IsBeforeInTurn S c (entry list i).0 q) (sym e) before
  | inr ne ↦ before_on (point S c) (point S (entry list j).0) (point S (entry list mid).0) (point S q) (so.order j mid (omega arith) hm) before
]

pub ahead_more : (S : List Point) (c : ℕ) (list : List (ℕ × Bool)) (q mid j : ℕ) → IsOrderly S c list → mid < length list → ¬ IsBeforeInTurn S c (entry list mid).0 q → mid ≤ j → j < length list → ¬ IsBeforeInTurn S c (entry list j).0 q
ahead_more S c list q mid j so hm not h hj before = elim (equal_or_not j mid) [
  | inl e ↦ not (subst (λ i. IsBeforeInTurn S c (entry list i).0 q) e before)
  | inr ne ↦ not (before_on (point S c) (point S (entry list mid).0) (point S (entry list j).0) (point S q) (so.order mid j (omega arith) hj) before)
]

-- the seat of a neighbour is its position
pub seat_of : (S : List Point) (c : ℕ) (list : List (ℕ × Bool)) (q k j : ℕ) → IsOrderly S c list → IsSeat S c list q k → j < length list → (entry list j).0 ≡ q → j ≡ k
seat_of S c list q k j so seat hj at = elim (cases_lt j k) [
  | inl h ↦ absurd (never_before_itself (point S c) (point S q) (subst (λ x. IsBeforeInTurn S c x q) at (seat.passed j h)))
  | inr h ↦ elim (equal_or_not j k) [
    | inl e ↦ e
    | inr ne ↦ absurd (seat.ahead k (omega arith) (omega arith) (subst (λ x. IsBeforeInTurn S c (entry list k).0 x) at (so.order k j (omega arith) hj)))
  ]
]

-- where no neighbour stands in the direction of q, those from its seat on come after it
pub after_seat : (S : List Point) (c : ℕ) (list : List (ℕ × Bool)) (q k : ℕ) → AreAccepted S → IsOrderly S c list → q < length S → q ≢ c → ((m : ℕ) → m < length list → ¬ IsInDirection S c (entry list m).0 q)
    → IsSeat S c list q k → (j : ℕ) → k ≤ j → j < length list → IsBeforeInTurn S c q (entry list j).0
after_seat S c list q k accepted so hq apart free seat j kj hj = elim (before_or (point S c) (point S (entry list j).0) (point S q)
    (points_differ S (entry list j).0 c accepted.apart (so.within j hj) so.centre (so.apart j hj))
    (points_differ S q c accepted.apart hq so.centre apart)) [
      | inl b ↦ absurd (seat.ahead j kj hj b)
      | inr rest ↦ elim rest [ inl t ↦ absurd (free j hj t) | inr a ↦ a ]
    ]
