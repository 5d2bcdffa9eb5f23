-- The needs of a centre, by the gaps between its kept neighbours.
use Rattle.std.proofs.Common.{◌≡◌, ◌≢◌, ℕ, ◌+◌, ◌-◌, ◌<◌, ◌≤◌, zero, suc, Bool, true, false, List, length, ◌⊎◌, inl, inr, ◌↔◌, arith, sym, ◌∙◌, subst, refl}
use Rattle.std.proofs.lemmas.Bool.{cases_lt, false≢true}
use Rattle.plane.specs.declared.coordinates.Point.{Point}
use Rattle.plane.specs.Geometry.{point, IsInNeed}
use Rattle.plane.specs.Accepted.{AreAccepted, AreApart}
use Rattle.plane.proofs.laws.Border.{points_differ}
use Rattle.star.specs.Turn.{TurnsBefore, PointTogether}
use Rattle.star.specs.Stars.{entry, IsOrderly}
use Rattle.star.proofs.laws.Turning.{before_or, before_on, not_together, not_together_after, upper_or_lower}
use Rattle.plane.specs.Geometry.{area}
use Rattle.plane.proofs.laws.Area.{area_swap}
use Rattle.std.proofs.Common.{pos}
use Rattle.std.proofs.lemmas.Int.{ints}
use Rattle.star.specs.Gaps.{IsKept, ComesSooner, IsKeptAfter, IsWide, MeetsAll, MissesSome, HasNoWideGap, HasWideGap}
use Rattle.star.proofs.HalfTurn.{IsWithinHalfTurn, half_turn_of_ahead, ahead_of_half_turn, halves}
use Rattle.star.proofs.Follow.{FollowRound, half_turn_first, half_turn_last, half_turn_together, together_not_ahead, ahead_back}
use Rattle.number_laws.proofs.Naturals.{equal_or_not}
use Rattle.star.proofs.Sooner.{sooner_turned, sooner_differ, sooner_across, sooner_round}

-- the place of the neighbour at k
abbrev pub neighbour : List Point → List (ℕ × Bool) → ℕ → Point
neighbour S list k = point S (entry list k).0

pub neighbour_not_centre : (S : List Point) (c : ℕ) (list : List (ℕ × Bool)) → AreApart S → IsOrderly S c list → (k : ℕ) → k < length list → neighbour S list k ≢ point S c
neighbour_not_centre S c list apart so k hk = points_differ S (entry list k).0 c apart (so.within k hk) so.centre (so.apart k hk)

pub half_turn_of_need : (S : List Point) (c : ℕ) (list : List (ℕ × Bool)) (u k : ℕ) → AreApart S → IsOrderly S c list → u < length S → u ≢ c → k < length list → IsInNeed S c u (entry list k).0 → IsWithinHalfTurn (point S c) (point S u) (neighbour S list k)
half_turn_of_need S c list u k apart so hu ne hk h = half_turn_of_ahead (point S c) (point S u) (neighbour S list k) (points_differ S u c apart hu so.centre ne) (neighbour_not_centre S c list apart so k hk) h.1

pub need_of_half_turn : (S : List Point) (c : ℕ) (list : List (ℕ × Bool)) (u k : ℕ) → IsOrderly S c list → k < length list → IsWithinHalfTurn (point S c) (point S u) (neighbour S list k) → IsInNeed S c u (entry list k).0
need_of_half_turn S c list u k so hk t = (so.apart k hk, ahead_of_half_turn (point S c) (point S u) (neighbour S list k) t)

pub follow_of_sooner : (S : List Point) (c : ℕ) (list : List (ℕ × Bool)) (i j m : ℕ) → IsOrderly S c list → i < length list → j < length list → m < length list → ComesSooner i j m → FollowRound (point S c) (neighbour S list i) (neighbour S list j) (neighbour S list m)
follow_of_sooner S c list i j m so hi hj hm (inl (a, b)) = inl (so.order i j a hj, so.order j m b hm)
follow_of_sooner S c list i j m so hi hj hm (inr (inl (a, b))) = inr (inl (so.order j m a hm, so.order m i b hi))
follow_of_sooner S c list i j m so hi hj hm (inr (inr (a, b))) = inr (inr (so.order m i a hi, so.order i j b hj))

pub before_or_after : (S : List Point) (c : ℕ) (list : List (ℕ × Bool)) (i j : ℕ) → IsOrderly S c list → i < length list → j < length list → i ≢ j → TurnsBefore (point S c) (neighbour S list i) (neighbour S list j) ⊎ TurnsBefore (point S c) (neighbour S list j) (neighbour S list i)
before_or_after S c list i j so hi hj ne = elim (cases_lt i j) [ inl h ↦ inl (so.order i j h hj) | inr h ↦ inr (so.order j i (omega arith) hi) ]

-- a neighbour isn't ahead of itself
pub not_ahead_of_itself : (S : List Point) (c : ℕ) (list : List (ℕ × Bool)) (k m : ℕ) → AreApart S → IsOrderly S c list → k < length list → m ≡ k → ¬ IsWithinHalfTurn (point S c) (neighbour S list k) (neighbour S list m)
not_ahead_of_itself S c list k m apart so hk e t =
    let U = neighbour S list k in
    together_not_ahead (point S c) U U (elim (upper_or_lower (point S c) U (neighbour_not_centre S c list apart so k hk)) [ inl h ↦ (inl (h, h), own) | inr h ↦ (inr (h, h), own) ])
    (subst (λ i. IsWithinHalfTurn (point S c) U (neighbour S list i)) e t)
  where
    own : area (point S c) (neighbour S list k) (neighbour S list k) ≡ pos 0
    own = let e = area_swap (point S c) (neighbour S list k) (neighbour S list k) in omega (arith, ints)

-- what is at most straight ahead of a kept neighbour shows that the next one is
pub next_within_half_turn : (S : List Point) (c : ℕ) (list : List (ℕ × Bool)) (i j m : ℕ) → AreApart S → IsOrderly S c list → IsKept list i → IsKeptAfter list i j → IsKept list m → IsWithinHalfTurn (point S c) (neighbour S list i) (neighbour S list m) → IsWithinHalfTurn (point S c) (neighbour S list i) (neighbour S list j)
next_within_half_turn S c list i j m apart so ki aj km t = elim (equal_or_not m i) [
  | inl e ↦ absurd (not_ahead_of_itself S c list i m apart so ki.0 e t)
  | inr ne ↦ elim (equal_or_not m j) [
    | inl e ↦ subst (λ x. IsWithinHalfTurn (point S c) (neighbour S list i) (neighbour S list x)) e t
    | inr other ↦ half_turn_first (point S c) (neighbour S list i) (neighbour S list j) (neighbour S list m) (follow_of_sooner S c list i j m so ki.0 aj.kept.0 km.0 (aj.first m km ne other)) t
  ]
]

bool : (b : Bool) → (b ≡ true) ⊎ (b ≡ false)
bool true = inl refl
bool false = inr refl

pub kept_or_not : (list : List (ℕ × Bool)) (k : ℕ) → k < length list → IsKept list k ⊎ (¬ IsKept list k)
kept_or_not list k hk = elim (bool (entry list k).1) [ inl t ↦ inl (hk, t) | inr f ↦ inr (λ h. false≢true (sym f ∙ h.1)) ]

-- the first kept position from s on, or that there is none
pub first_kept_from : (list : List (ℕ × Bool)) (d s : ℕ) → s + d ≡ length list → ((j : ℕ) × IsKept list j × (s ≤ j) × ((m : ℕ) → IsKept list m → s ≤ m → j ≤ m)) ⊎ ((m : ℕ) → IsKept list m → m < s)
first_kept_from list zero s h = inr (λ m k. omega (arith, k.0))
first_kept_from list (suc d) s h = elim (kept_or_not list s (omega arith)) [
  | inl k ↦ inl (s, k, omega arith, λ m km le. le)
  | inr nk ↦ elim (first_kept_from list d (s + 1) (omega arith)) [
    | inl f ↦ inl (f.0, f.1, omega (arith, f.2), λ m km le. f.3 m km (past m km le nk))
    | inr none ↦ inr (λ m km. below m km (none m km) nk)
  ]
]
  where
    past : (m : ℕ) → IsKept list m → s ≤ m → (¬ IsKept list s) → s + 1 ≤ m
    past m km le nk = elim (equal_or_not m s) [ inl e ↦ absurd (nk (subst (λ x. IsKept list x) e km)) | inr ne ↦ omega arith ]

    below : (m : ℕ) → IsKept list m → m < s + 1 → (¬ IsKept list s) → m < s
    below m km lt nk = elim (equal_or_not m s) [ inl e ↦ absurd (nk (subst (λ x. IsKept list x) e km)) | inr ne ↦ omega arith ]

-- the last kept position below s, or that there is none
pub last_kept_below : (list : List (ℕ × Bool)) (s : ℕ) → s ≤ length list → ((i : ℕ) × IsKept list i × (i < s) × ((m : ℕ) → IsKept list m → m < s → m ≤ i)) ⊎ ((m : ℕ) → IsKept list m → s ≤ m)
last_kept_below list zero h = inr (λ m k. omega arith)
last_kept_below list (suc s) h = elim (kept_or_not list s (omega arith)) [
  | inl k ↦ inl (s, k, omega arith, λ m km lt. omega arith)
  | inr nk ↦ elim (last_kept_below list s (omega arith)) [
    | inl f ↦ inl (f.0, f.1, omega (arith, f.2), λ m km lt. f.3 m km (below m km lt nk))
    | inr none ↦ inr (λ m km. past m km (none m km) nk)
  ]
]
  where
    past : (m : ℕ) → IsKept list m → s ≤ m → (¬ IsKept list s) → suc s ≤ m
    past m km le nk = elim (equal_or_not m s) [ inl e ↦ absurd (nk (subst (λ x. IsKept list x) e km)) | inr ne ↦ omega arith ]

    below : (m : ℕ) → IsKept list m → m < suc s → (¬ IsKept list s) → m < s
    below m km lt nk = elim (equal_or_not m s) [ inl e ↦ absurd (nk (subst (λ x. IsKept list x) e km)) | inr ne ↦ omega arith ]

-- The place of a direction among the neighbours: those below s come before it or share it, those from s on come after it.
pub record IsPlaced (S : List Point) (c : ℕ) (list : List (ℕ × Bool)) (U : Point) (s : ℕ) : Type 0 where
  pub within : s ≤ length list
  pub passed : (k : ℕ) → k < s → TurnsBefore (point S c) (neighbour S list k) U ⊎ PointTogether (point S c) U (neighbour S list k)
  pub ahead : (k : ℕ) → s ≤ k → k < length list → TurnsBefore (point S c) U (neighbour S list k)

pub direction_placed : (S : List Point) (c : ℕ) (list : List (ℕ × Bool)) (U : Point) → AreApart S → IsOrderly S c list → U ≢ point S c → (d s : ℕ) → s + d ≡ length list
    → ((k : ℕ) → k < s → TurnsBefore (point S c) (neighbour S list k) U ⊎ PointTogether (point S c) U (neighbour S list k)) → (t : ℕ) × IsPlaced S c list U t
direction_placed S c list U apart so off zero s h before = (s, record { within = omega arith; passed = before; ahead = λ k a b. absurd (omega arith) })
direction_placed S c list U apart so off (suc d) s h before = elim (before_or (point S c) U (neighbour S list s) off (neighbour_not_centre S c list apart so s (omega arith))) [
  | inl us ↦ (s, record { within = omega arith; passed = before; ahead = λ k a b. sooner_onward us k a b })
  | inr rest ↦ direction_placed S c list U apart so off d (s + 1) (omega arith) (λ k lt. more rest k lt)
]
  where
    sooner_onward : TurnsBefore (point S c) U (neighbour S list s) → (k : ℕ) → s ≤ k → k < length list → TurnsBefore (point S c) U (neighbour S list k)
    sooner_onward us k a b = elim (equal_or_not k s) [
      | inl e ↦ subst (λ x. TurnsBefore (point S c) U (neighbour S list x)) (sym e) us
      | inr ne ↦ before_on (point S c) U (neighbour S list s) (neighbour S list k) us (so.order s k (omega arith) b)
    ]

    more : PointTogether (point S c) U (neighbour S list s) ⊎ TurnsBefore (point S c) (neighbour S list s) U → (k : ℕ) → k < s + 1 → TurnsBefore (point S c) (neighbour S list k) U ⊎ PointTogether (point S c) U (neighbour S list k)
    more w k lt = elim (equal_or_not k s) [
      | inl e ↦ subst (λ x. TurnsBefore (point S c) (neighbour S list x) U ⊎ PointTogether (point S c) U (neighbour S list x)) (sym e) (elim w [ inl t ↦ inr t | inr b ↦ inl b ])
      | inr ne ↦ before k (omega arith)
    ]

-- a kept neighbour, the next one, and what the gap between them says of a direction that lies in it
pub record IsGapFor (S : List Point) (c : ℕ) (list : List (ℕ × Bool)) (U : Point) (i j : ℕ) : Type 0 where
  pub kept : IsKept list i
  pub after : IsKeptAfter list i j
  pub small : IsWithinHalfTurn (point S c) (neighbour S list i) (neighbour S list j) → IsWithinHalfTurn (point S c) U (neighbour S list j)

in_gap : (S : List Point) (c : ℕ) (list : List (ℕ × Bool)) (U : Point) (i j : ℕ) → FollowRound (point S c) (neighbour S list i) U (neighbour S list j) ⊎ PointTogether (point S c) U (neighbour S list i) → IsWithinHalfTurn (point S c) (neighbour S list i) (neighbour S list j) → IsWithinHalfTurn (point S c) U (neighbour S list j)
in_gap S c list U i j (inl r) t = half_turn_last (point S c) (neighbour S list i) U (neighbour S list j) r t
in_gap S c list U i j (inr g) t = half_turn_together (point S c) (neighbour S list i) U (neighbour S list j) g t

pub gap_of_direction : (S : List Point) (c : ℕ) (list : List (ℕ × Bool)) (U : Point) → AreApart S → IsOrderly S c list → U ≢ point S c
    → ((k : ℕ) → ¬ IsKept list k) ⊎ ((i : ℕ) × (j : ℕ) × IsGapFor S c list U i j)
gap_of_direction S c list U apart so off =
    let (s, w) = direction_placed S c list U apart so off (length list) 0 (omega arith) (λ k h. absurd (omega arith)) in
    by_sides s w (first_kept_from list (length list) 0 (omega arith)) (last_kept_below list (length list) (omega arith)) (last_kept_below list s w.within) (find_up_from s w)
  where
    find_up_from : (s : ℕ) → IsPlaced S c list U s → ((j : ℕ) × IsKept list j × (s ≤ j) × ((m : ℕ) → IsKept list m → s ≤ m → j ≤ m)) ⊎ ((m : ℕ) → IsKept list m → m < s)
    find_up_from s w = let h : s ≤ length list = w.within in let n = length list in first_kept_from list (n - s) s (omega arith)

    own_gap : (i j : ℕ) → IsKept list i → IsKeptAfter list i j → i ≡ j → IsGapFor S c list U i j
    own_gap i j ki aj e = record { kept = ki; after = aj; small = λ t. absurd (not_ahead_of_itself S c list i j apart so ki.0 (sym e) t) }

    by_sides : (s : ℕ) → IsPlaced S c list U s
        → ((j : ℕ) × IsKept list j × (0 ≤ j) × ((m : ℕ) → IsKept list m → 0 ≤ m → j ≤ m)) ⊎ ((m : ℕ) → IsKept list m → m < 0)
        → ((i : ℕ) × IsKept list i × (i < length list) × ((m : ℕ) → IsKept list m → m < length list → m ≤ i)) ⊎ ((m : ℕ) → IsKept list m → length list ≤ m)
        → ((i : ℕ) × IsKept list i × (i < s) × ((m : ℕ) → IsKept list m → m < s → m ≤ i)) ⊎ ((m : ℕ) → IsKept list m → s ≤ m)
        → ((j : ℕ) × IsKept list j × (s ≤ j) × ((m : ℕ) → IsKept list m → s ≤ m → j ≤ m)) ⊎ ((m : ℕ) → IsKept list m → m < s)
        → ((k : ℕ) → ¬ IsKept list k) ⊎ ((i : ℕ) × (j : ℕ) × IsGapFor S c list U i j)
    by_sides s w (inr none) last down next = inl (λ k h. (let z = none k h in omega arith))
    by_sides s w (inl first) (inr none) down next = inl (λ k h. (let z = none k h in let g : k < length list = h.0 in omega arith))
    by_sides s w (inl (f, kf, f0, ff)) (inl (l, kl, l0, fl)) (inl (i, ki, lt, fi)) (inl (j, kj, le, fj)) =
        inr (
          i,
          j,
          record {
            kept = ki;
            after = record { kept = kj; first = λ m km a b. sooner_across s i j m lt le a b (fi m km) (fj m km) };
            small = in_gap S c list U i j (elim (w.passed i lt) [ inl b ↦ inl (inl (b, w.ahead j le kj.0)) | inr t ↦ inr t ]);
          },
        )
    by_sides s w (inl (f, kf, f0, ff)) (inl (l, kl, l0, fl)) (inl (i, ki, lt, fi)) (inr low) =
        let le : f ≤ i = ff i ki (omega arith) in
        let after : IsKeptAfter list i f = record { kept = kf; first = λ m km a b. (let x = ff m km (omega arith) in let y = fi m km (low m km) in sooner_round f i m a b x y) } in
        inr (
          i,
          f,
          elim (equal_or_not i f) [
            | inl e ↦ own_gap i f ki after e
            | inr ne ↦ record {
              kept = ki;
              after = after;
              small = in_gap S c list U i f (elim (w.passed i lt) [ inl b ↦ inl (inr (inr (so.order f i (omega arith) ki.0, b))) | inr t ↦ inr t ]);
            }
          ],
        )
    by_sides s w (inl (f, kf, f0, ff)) (inl (l, kl, l0, fl)) (inr high) (inl (j, kj, le, fj)) =
        let jl : j ≤ l = fj l kl (high l kl) in
        let after : IsKeptAfter list l j = record { kept = kj; first = λ m km a b. (let x = fj m km (high m km) in let y = fl m km km.0 in sooner_round j l m a b x y) } in
        inr (
          l,
          j,
          elim (equal_or_not l j) [
            | inl e ↦ own_gap l j kl after e
            | inr ne ↦ record {
              kept = kl;
              after = after;
              small = in_gap S c list U l j (inl (inr (inl (w.ahead j le kj.0, so.order j l (omega arith) kl.0))));
            }
          ],
        )
    by_sides s w (inl (f, kf, f0, ff)) (inl (l, kl, l0, fl)) (inr high) (inr low) = inl (λ k h. (let x = high k h in let y = low k h in omega arith))

pub another_point : (S : List Point) (c : ℕ) → AreAccepted S → (u : ℕ) × (u < length S) × (u ≢ c)
another_point S c ok = elim (equal_or_not c 0) [
  | inl e ↦ (1, omega (arith, ok.count.0), λ h. (let z : 1 ≡ c = h in omega arith))
  | inr ne ↦ (0, omega (arith, ok.count.0), λ h. ne (sym h))
]

pub point_not_centre : (S : List Point) (c : ℕ) (list : List (ℕ × Bool)) (u : ℕ) → AreApart S → IsOrderly S c list → u < length S → u ≢ c → point S u ≢ point S c
point_not_centre S c list u apart so hu ne = points_differ S u c apart hu so.centre ne

-- from a kept neighbour: where its need is met at all, the next kept one is in it
pub next_in_need : (S : List Point) (c : ℕ) (list : List (ℕ × Bool)) (i j m : ℕ) → AreApart S → IsOrderly S c list → IsKept list i → IsKeptAfter list i j → IsKept list m
    → IsInNeed S c (entry list i).0 (entry list m).0 → IsInNeed S c (entry list i).0 (entry list j).0
next_in_need S c list i j m apart so ki aj km h =
    need_of_half_turn S c list (entry list i).0 j so aj.kept.0
    (next_within_half_turn S c list i j m apart so ki aj km (half_turn_of_need S c list (entry list i).0 m apart so (so.within i ki.0) (so.apart i ki.0) km.0 h))

-- the needs of a centre are met exactly where some neighbour is kept and no gap is more than straight
pub met_without_wide_gap : (S : List Point) (c : ℕ) (list : List (ℕ × Bool)) → AreAccepted S → IsOrderly S c list → MeetsAll S c list ↔ HasNoWideGap S c list
met_without_wide_gap S c list ok so = (to, from)
  where
    to : MeetsAll S c list → HasNoWideGap S c list
    to all =
        let (u, hu, ne) = another_point S c ok in
        let (k, kk, _) = all u hu ne in
        ((k, kk), λ i j ki aj. (let (m, km, h) = all (entry list i).0 (so.within i ki.0) (so.apart i ki.0) in next_in_need S c list i j m ok.apart so ki aj km h))

    from : HasNoWideGap S c list → MeetsAll S c list
    from (some, gaps) u hu ne = elim (gap_of_direction S c list (point S u) ok.apart so (point_not_centre S c list u ok.apart so hu ne)) [
      | inl none ↦ absurd (none some.0 some.1)
      | inr (i, j, g) ↦ (
        j,
        g.after.kept,
        need_of_half_turn S c list u j so g.after.kept.0
            (g.small (half_turn_of_need S c list (entry list i).0 j ok.apart so (so.within i g.kept.0) (so.apart i g.kept.0) g.after.kept.0 (gaps i j g.kept g.after))),
      )
    ]

pub missed_with_wide_gap : (S : List Point) (c : ℕ) (list : List (ℕ × Bool)) → AreAccepted S → IsOrderly S c list → MissesSome S c list ↔ HasWideGap S c list
missed_with_wide_gap S c list ok so = (to, from)
  where
    to : MissesSome S c list → HasWideGap S c list
    to (u, hu, ne, missed) = elim (gap_of_direction S c list (point S u) ok.apart so (point_not_centre S c list u ok.apart so hu ne)) [
      | inl none ↦ inl none
      | inr (i, j, g) ↦ inr (
        i,
        j,
        g.kept,
        g.after,
        λ h. missed j g.after.kept (need_of_half_turn S c list u j so g.after.kept.0
            (g.small (half_turn_of_need S c list (entry list i).0 j ok.apart so (so.within i g.kept.0) (so.apart i g.kept.0) g.after.kept.0 h))),
      )
    ]

    from : HasWideGap S c list → MissesSome S c list
    from (inl none) = let (u, hu, ne) = another_point S c ok in (u, hu, ne, λ k kk. absurd (none k kk))
    from (inr (i, j, ki, aj, wide)) = ((entry list i).0, so.within i ki.0, so.apart i ki.0, λ m km h. wide (next_in_need S c list i j m ok.apart so ki aj km h))

-- b is ahead of a, or a of b
pub ahead_backward : (S : List Point) (c : ℕ) (list : List (ℕ × Bool)) (a b : ℕ) → AreApart S → IsOrderly S c list → IsKept list a → IsKept list b → a ≢ b → IsWide S c (entry list a).0 (entry list b).0 → IsWithinHalfTurn (point S c) (neighbour S list b) (neighbour S list a)
ahead_backward S c list a b apart so ka kb ne wide =
    let C = point S c in
    let A = neighbour S list a in
    let B = neighbour S list b in
    ahead_back C A B (halves C A B (neighbour_not_centre S c list apart so a ka.0) (neighbour_not_centre S c list apart so b kb.0))
    (elim (before_or_after S c list a b so ka.0 kb.0 ne) [ inl h ↦ not_together C A B h | inr h ↦ not_together_after C A B h ])
    (λ t. wide (need_of_half_turn S c list (entry list a).0 b so kb.0 t))

-- at most one gap is more than straight
pub one_wide_gap : (S : List Point) (c : ℕ) (list : List (ℕ × Bool)) (i j k l : ℕ) → AreApart S → IsOrderly S c list → IsKept list i → IsKeptAfter list i j → IsKept list k → IsKeptAfter list k l
    → IsWide S c (entry list i).0 (entry list j).0 → IsWide S c (entry list k).0 (entry list l).0 → i ≡ k
one_wide_gap S c list i j k l apart so ki aj kk al wide wider = elim (equal_or_not i k) [
  | inl e ↦ e
  | inr ne ↦ absurd (other ne)
]
  where
    other : i ≢ k → ⊥
    other ne = elim (equal_or_not j i) [
      | inl e ↦ (let f = aj.first k kk (λ h. ne (sym h)) (λ h. ne (sym e ∙ sym h)) in (sooner_differ i j k f).0 (sym e))
      | inr apart_j ↦
          (let t = ahead_backward S c list i j apart so ki aj.kept (λ h. apart_j (sym h)) wide in
          wider (need_of_half_turn S c list (entry list k).0 l so al.kept.0
          (next_within_half_turn S c list k l i apart so kk al ki
          (elim (equal_or_not k j) [
            | inl e ↦ subst (λ x. IsWithinHalfTurn (point S c) (neighbour S list x) (neighbour S list i)) (sym e) t
            | inr nj ↦ half_turn_last (point S c) (neighbour S list j) (neighbour S list k) (neighbour S list i) (follow_of_sooner S c list j k i so aj.kept.0 kk.0 ki.0 (sooner_turned i j k (aj.first k kk (λ h. ne (sym h)) nj))) t
          ]))))
    ]
