-- What a mark that goes or comes does to the needs and to the gaps.
use Rattle.std.proofs.Common.{◌≢◌, ℕ, ◌<◌, Bool, List, length, ◌⊎◌, inl, inr, ◌↔◌, arith, sym, ◌∙◌, subst, ℤ, pos, ◌<ℤ◌}
use Rattle.std.proofs.lemmas.Int.{ints}
use Rattle.plane.specs.declared.coordinates.Point.{Point}
use Rattle.plane.specs.Geometry.{point, area, scalar, IsInNeed}
use Rattle.plane.specs.Accepted.{AreAccepted, AreApart}
use Rattle.number_laws.proofs.Signs.{negative_or}
use Rattle.star.specs.Stars.{entry, IsOrderly}
use Rattle.star.specs.Gaps.{IsKept, ComesSooner, IsKeptAfter, IsKeptBefore, IsWide, MissesSome}
use Rattle.star.proofs.HalfTurn.{IsWithinHalfTurn}
use Rattle.star.proofs.Follow.{FollowRound, half_turn_first, half_turn_last, half_turn_together, together_not_ahead, follow_rotated, follow_joined, at_first, at_second, inside, outside, standing_of}
use Rattle.star.proofs.Sooner.{sooner_joined, sooner_differ}
use Rattle.star.proofs.Without.{IsWithout}
use Rattle.number_laws.proofs.Naturals.{equal_or_not}
use Rattle.star.proofs.Gaps.{neighbour, neighbour_not_centre, half_turn_of_need, need_of_half_turn, follow_of_sooner, before_or_after, not_ahead_of_itself, point_not_centre, next_in_need, ahead_backward}

is_left : (a : ℤ) → (pos 0 <ℤ a) ⊎ (¬ (pos 0 <ℤ a))
is_left a = elim (negative_or a) [
  | inl h ↦ inr (λ g. omega (arith, ints))
  | inr rest ↦ elim rest [ inl h ↦ inr (λ g. omega (arith, ints)) | inr h ↦ inl h ]
]

-- whether a neighbour is in a need can be told
pub need_or_wide : (S : List Point) (c : ℕ) (list : List (ℕ × Bool)) (a b : ℕ) → IsOrderly S c list → b < length list → IsInNeed S c (entry list a).0 (entry list b).0 ⊎ IsWide S c (entry list a).0 (entry list b).0
need_or_wide S c list a b so hb =
    let C = point S c in let A = neighbour S list a in let B = neighbour S list b in
    elim (is_left (area C A B)) [
      | inl h ↦ inl (so.apart b hb, inl h)
      | inr not_left ↦ elim (negative_or (area A C B)) [
        | inl n ↦ inr (λ h. elim h.1 [ inl g ↦ not_left g | inr g ↦ omega (arith, ints, g.0) ])
        | inr rest ↦ elim rest [
          | inl z ↦ elim (negative_or (scalar C A B)) [
            | inl n ↦ inl (so.apart b hb, inr (z, n))
            | inr more ↦ inr (λ h. elim h.1 [ inl g ↦ not_left g | inr g ↦ elim more [ inl e ↦ omega (arith, ints, g.1) | inr e ↦ omega (arith, ints, g.1) ] ])
          ]
          | inr p ↦ inr (λ h. elim h.1 [ inl g ↦ not_left g | inr g ↦ omega (arith, ints, g.0) ])
        ]
      ]
    ]

-- where the gap from the one before k to the one after is at most straight, one of the two stands in for k
fill : (S : List Point) (c : ℕ) (list : List (ℕ × Bool)) (k a b : ℕ) (U : Point) → AreApart S → IsOrderly S c list → IsKept list k → IsKeptBefore list k a → IsKeptAfter list k b → U ≢ point S c
    → IsWithinHalfTurn (point S c) (neighbour S list a) (neighbour S list b) → IsWithinHalfTurn (point S c) U (neighbour S list k) → (m : ℕ) × IsKept list m × (m ≢ k) × IsWithinHalfTurn (point S c) U (neighbour S list m)
fill S c list k a b U apart so kk before after off small t =
    elim (equal_or_not a b) [ inl e ↦ absurd (not_ahead_of_itself S c list a b apart so before.kept.0 (sym e) small) | inr ab ↦ apart_ab ab ]
  where
    C : Point
    C = point S c

    apart_ab : a ≢ b → (m : ℕ) × IsKept list m × (m ≢ k) × IsWithinHalfTurn (point S c) U (neighbour S list m)
    apart_ab ab = elim (equal_or_not b k) [
      | inl e ↦ absurd (let f = after.first a before.kept (λ h. ab (h ∙ sym e)) ab in (sooner_differ k b a f).0 (sym e))
      | inr bk ↦ elim (equal_or_not a k) [
        | inl e ↦ absurd (let f = before.last b after.kept bk (λ h. ab (sym h)) in (sooner_differ a k b f).0 e)
        | inr ak ↦
            (let order : ComesSooner a k b = before.last b after.kept bk (λ h. ab (sym h)) in
            elim (standing_of (point S c) (neighbour S list a) (neighbour S list k) U (neighbour_not_centre S c list apart so a before.kept.0) (neighbour_not_centre S c list apart so k kk.0) off (before_or_after S c list a k so before.kept.0 kk.0 ak)) [
              | at_first g ↦ (b, after.kept, bk, half_turn_together (point S c) (neighbour S list a) U (neighbour S list b) g small)
              | at_second g ↦ absurd (together_not_ahead (point S c) U (neighbour S list k) g t)
              | inside r ↦ (
                b,
                after.kept,
                bk,
                half_turn_last (point S c) (neighbour S list a) U (neighbour S list b)
                    (follow_joined (point S c) (neighbour S list a) U (neighbour S list k) (neighbour S list b) r (follow_of_sooner S c list a k b so before.kept.0 kk.0 after.kept.0 order)) small,
              )
              | outside r ↦ (a, before.kept, ak, half_turn_first (point S c) U (neighbour S list a) (neighbour S list k) (follow_rotated (point S c) (neighbour S list k) U (neighbour S list a) r) t)
            ])
      ]
    ]

-- where that gap is more than straight, the need of the one before k has no other
blocked : (S : List Point) (c : ℕ) (list : List (ℕ × Bool)) (k a b m : ℕ) → AreApart S → IsOrderly S c list → IsKeptBefore list k a → IsKeptAfter list k b → IsKept list m → m ≢ k
    → IsWithinHalfTurn (point S c) (neighbour S list a) (neighbour S list m) → IsWithinHalfTurn (point S c) (neighbour S list a) (neighbour S list b)
blocked S c list k a b m apart so before after km mk t = elim (equal_or_not m a) [
  | inl e ↦ absurd (not_ahead_of_itself S c list a m apart so before.kept.0 e t)
  | inr ma ↦ elim (equal_or_not m b) [
    | inl e ↦ subst (λ x. IsWithinHalfTurn (point S c) (neighbour S list a) (neighbour S list x)) e t
    | inr mb ↦ half_turn_first (point S c) (neighbour S list a) (neighbour S list b) (neighbour S list m)
        (follow_of_sooner S c list a b m so before.kept.0 after.kept.0 km.0 (sooner_joined a k b m (before.last m km mk ma) (after.first m km mk mb))) t
  ]
]

-- Without the mark of k some need is missed exactly where one was missed before, or the gap from the one before k to the
-- one after is more than straight.
pub missed_without_mark : (S : List Point) (c : ℕ) (list new : List (ℕ × Bool)) (k a b : ℕ) → AreAccepted S → IsOrderly S c list → IsWithout list new k → IsKeptBefore list k a → IsKeptAfter list k b
    → MissesSome S c new ↔ (MissesSome S c list ⊎ IsWide S c (entry list a).0 (entry list b).0)
missed_without_mark S c list new k a b ok so w before after = (to, from)
  where
    named : (u m : ℕ) → IsInNeed S c u (entry list m).0 → IsInNeed S c u (entry new m).0
    named u m h = subst (λ x. IsInNeed S c u x) (sym (w.names m)) h

    renamed : (u m : ℕ) → IsInNeed S c u (entry new m).0 → IsInNeed S c u (entry list m).0
    renamed u m h = subst (λ x. IsInNeed S c u x) (w.names m) h

    filled : (u : ℕ) → u < length S → u ≢ c → ((m : ℕ) → IsKept new m → ¬ IsInNeed S c u (entry new m).0) → IsInNeed S c (entry list a).0 (entry list b).0 → IsInNeed S c u (entry list k).0 → ⊥
    filled u hu ne missed gap h =
        let small = half_turn_of_need S c list (entry list a).0 b ok.apart so (so.within a before.kept.0) (so.apart a before.kept.0) after.kept.0 gap in
        let t = half_turn_of_need S c list u k ok.apart so hu ne w.kept.0 h in
        let (m, km, mk, g) = fill S c list k a b (point S u) ok.apart so w.kept before after (point_not_centre S c list u ok.apart so hu ne) small t in
        missed m (w.stays m km mk) (named u m (need_of_half_turn S c list u m so km.0 g))

    to : MissesSome S c new → MissesSome S c list ⊎ IsWide S c (entry list a).0 (entry list b).0
    to (u, hu, ne, missed) = elim (need_or_wide S c list a b so after.kept.0) [
      | inr wide ↦ inr wide
      | inl gap ↦ inl (
        u,
        hu,
        ne,
        λ m km h. elim (equal_or_not m k) [
          | inr mk ↦ missed m (w.stays m km mk) (named u m h)
          | inl e ↦ filled u hu ne missed gap (subst (λ x. IsInNeed S c u (entry list x).0) e h)
        ],
      )
    ]

    from : MissesSome S c list ⊎ IsWide S c (entry list a).0 (entry list b).0 → MissesSome S c new
    from (inl (u, hu, ne, missed)) = (u, hu, ne, λ m km h. missed m (w.rest m km).1 (renamed u m h))
    from (inr wide) = (
      (entry list a).0,
      so.within a before.kept.0,
      so.apart a before.kept.0,
      λ m km h.
          (let (mk, old) = w.rest m km in
          wide (need_of_half_turn S c list (entry list a).0 b so after.kept.0
          (blocked S c list k a b m ok.apart so before after old mk
          (half_turn_of_need S c list (entry list a).0 m ok.apart so (so.within a before.kept.0) (so.apart a before.kept.0) old.0 (renamed (entry list a).0 m h))))),
    )

-- With the mark of k, which splits a gap of more than straight, some need is missed exactly where one of the two parts is
-- more than straight.
pub missed_with_mark : (S : List Point) (c : ℕ) (list : List (ℕ × Bool)) (k a b : ℕ) → AreAccepted S → IsOrderly S c list → IsKept list k → IsKeptBefore list k a → IsKeptAfter list k b
    → IsWide S c (entry list a).0 (entry list b).0
    → MissesSome S c list ↔ (IsWide S c (entry list a).0 (entry list k).0 ⊎ IsWide S c (entry list k).0 (entry list b).0)
missed_with_mark S c list k a b ok so kk before after wide = (to, from)
  where
    ahead : (i m : ℕ) → IsKept list i → m < length list → IsInNeed S c (entry list i).0 (entry list m).0 → IsWithinHalfTurn (point S c) (neighbour S list i) (neighbour S list m)
    ahead i m ki hm h = half_turn_of_need S c list (entry list i).0 m ok.apart so (so.within i ki.0) (so.apart i ki.0) hm h

    -- k is the next after a
    after_a : IsKeptAfter list a k
    after_a = record { kept = kk; first = λ m km ma mk. before.last m km mk ma }

    met : (u : ℕ) → u < length S → u ≢ c → IsInNeed S c (entry list a).0 (entry list k).0 → IsInNeed S c (entry list k).0 (entry list b).0 → (m : ℕ) × IsKept list m × IsInNeed S c u (entry list m).0
    met u hu ne first second =
        let U = point S u in
        let off = point_not_centre S c list u ok.apart so hu ne in
        let s = ahead a k before.kept kk.0 first in
        let t = ahead k b kk after.kept.0 second in
        elim (equal_or_not a k) [
          | inl e ↦ absurd (not_ahead_of_itself S c list a k ok.apart so before.kept.0 (sym e) s)
          | inr ak ↦ elim (standing_of (point S c) (neighbour S list a) (neighbour S list k) U (neighbour_not_centre S c list ok.apart so a before.kept.0) (neighbour_not_centre S c list ok.apart so k kk.0) off (before_or_after S c list a k so before.kept.0 kk.0 ak)) [
            | at_first g ↦ (k, kk, need_of_half_turn S c list u k so kk.0 (half_turn_together (point S c) (neighbour S list a) U (neighbour S list k) g s))
            | at_second g ↦ (b, after.kept, need_of_half_turn S c list u b so after.kept.0 (half_turn_together (point S c) (neighbour S list k) U (neighbour S list b) g t))
            | inside r ↦ (k, kk, need_of_half_turn S c list u k so kk.0 (half_turn_last (point S c) (neighbour S list a) U (neighbour S list k) r s))
            | outside r ↦ beyond U ne hu off t ak r
          ]
        ]
      where
        -- the direction stands after k and before a
        beyond : (U : Point) → u ≢ c → u < length S → point S u ≢ point S c → IsWithinHalfTurn (point S c) (neighbour S list k) (neighbour S list b) → a ≢ k → FollowRound (point S c) (neighbour S list k) (point S u) (neighbour S list a) → (m : ℕ) × IsKept list m × IsInNeed S c u (entry list m).0
        beyond U ne hu off t ak r = elim (equal_or_not a b) [
          | inl e ↦ (b, after.kept, need_of_half_turn S c list u b so after.kept.0 (half_turn_last (point S c) (neighbour S list k) (point S u) (neighbour S list b) (subst (λ x. FollowRound (point S c) (neighbour S list k) (point S u) (neighbour S list x)) e r) t))
          | inr ab ↦
              (let w = ahead_backward S c list a b ok.apart so before.kept after.kept ab wide in
              elim (standing_of (point S c) (neighbour S list k) (neighbour S list b) (point S u) (neighbour_not_centre S c list ok.apart so k kk.0) (neighbour_not_centre S c list ok.apart so b after.kept.0) off (before_or_after S c list k b so kk.0 after.kept.0 (kb ab))) [
                | at_first g ↦ (b, after.kept, need_of_half_turn S c list u b so after.kept.0 (half_turn_together (point S c) (neighbour S list k) (point S u) (neighbour S list b) g t))
                | at_second g ↦ (a, before.kept, need_of_half_turn S c list u a so before.kept.0 (half_turn_together (point S c) (neighbour S list b) (point S u) (neighbour S list a) g w))
                | inside q ↦ (b, after.kept, need_of_half_turn S c list u b so after.kept.0 (half_turn_last (point S c) (neighbour S list k) (point S u) (neighbour S list b) q t))
                | outside q ↦ (a, before.kept, need_of_half_turn S c list u a so before.kept.0 (half_turn_last (point S c) (neighbour S list b) (point S u) (neighbour S list a) (past ab q) w))
              ])
        ]
          where
            kb : a ≢ b → k ≢ b
            kb ab e = let f = after.first a before.kept ak ab in (sooner_differ k b a f).0 e

            -- k, b, u and k, u, a round: b, u, a
            past : a ≢ b → FollowRound (point S c) (neighbour S list b) (point S u) (neighbour S list k) → FollowRound (point S c) (neighbour S list b) (point S u) (neighbour S list a)
            past ab q =
                let A = neighbour S list a in let B = neighbour S list b in let E = neighbour S list k in
                follow_rotated (point S c) A B (point S u) (follow_rotated (point S c) (point S u) A B
                (follow_joined (point S c) (point S u) A E B (follow_rotated (point S c) E (point S u) A r) (follow_rotated (point S c) B (point S u) E q)))

    to : MissesSome S c list → IsWide S c (entry list a).0 (entry list k).0 ⊎ IsWide S c (entry list k).0 (entry list b).0
    to (u, hu, ne, missed) = elim (need_or_wide S c list a k so kk.0) [
      | inr h ↦ inl h
      | inl first ↦ elim (need_or_wide S c list k b so after.kept.0) [
        | inr h ↦ inr h
        | inl second ↦ absurd (let (m, km, h) = met u hu ne first second in missed m km h)
      ]
    ]

    from : IsWide S c (entry list a).0 (entry list k).0 ⊎ IsWide S c (entry list k).0 (entry list b).0 → MissesSome S c list
    from (inl h) = ((entry list a).0, so.within a before.kept.0, so.apart a before.kept.0, λ m km g. h (next_in_need S c list a k m ok.apart so before.kept after_a km g))
    from (inr h) = ((entry list k).0, so.within k kk.0, so.apart k kk.0, λ m km g. h (next_in_need S c list k b m ok.apart so kk after km g))
