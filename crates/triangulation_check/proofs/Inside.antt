-- A triangle of segments of a convex partition, at whose first corner no segment goes inside, has no further point.
use Rattle.std.proofs.Common.{◌≡◌, ◌≢◌, ℕ, zero, suc, ◌<◌, ◌≤◌, List, length, ℤ, pos, ◌-ℤ◌, ◌*ℤ◌, ◌<ℤ◌, ◌≤ℤ◌, ◌⊎◌, inl, inr, arith, sym, subst}
use Rattle.std.proofs.lemmas.Int.{ints}
use Rattle.std.proofs.lemmas.Bool.{cases_lt}
use Rattle.number_laws.proofs.Naturals.{equal_or_not}
use Rattle.std.proofs.Math.IntN.{*ℤ_comm}
use Rattle.number_laws.proofs.Signs.{by_sign, negative_or, zero_left, cancel_weak, cancel_zero, mul_weak, weak_of_positive}
use Rattle.plane.specs.declared.coordinates.Point.{Point}
use Rattle.plane.specs.declared.segment.Pair.{Pair}
use Rattle.plane.specs.Geometry.{point, orientation, AreCrossing, IsBetween, IsClear, IsEmptyTriangle}
use Rattle.plane.specs.Accepted.{AreAccepted}
use Rattle.plane.proofs.laws.Along.{between_swap, other_side, other_side_right, one_between}
use Rattle.plane.proofs.laws.Border.{points_differ, clear_back}
use Rattle.plane_laws.proofs.Field.{Over, rot, rot_back, low_last, not_beyond, left_first, left_second, zero_second, by_high, flip, over_cross}
use Rattle.plane_laws.proofs.Places.{plane_laws}
use Rattle.partition_defs.specs.Partition.{Joins, IsConvexPartition}
use Rattle.partition_defs.proofs.laws.Has.{contains_of}
use Rattle.partition_defs.proofs.laws.Joined.{joined, join_back}
use Rattle.partition_defs.proofs.laws.Crossings.{crossing_ends}
use Rattle.triangulation_check.specs.Ends.{IsAmid}
use Rattle.triangulation_check.proofs.Enclosed.{IsEnclosed, enclosed_is_inner, off_side, within_two, second_side, high_of_low}

-- no two segments cross, told by their ends
never_cross : (S : List Point) (K : List Pair) → IsConvexPartition S K → (i j k l : ℕ) → Joins K i j → Joins K k l → ¬ AreCrossing S i j k l
never_cross S K part i j k l g h x =
    let (e, me, ends) = joined K i j g in let (f, mf, sides) = joined K k l h in
    part.plane e f (contains_of K e me) (contains_of K f mf) (crossing_ends S e f i j k l ends sides x)

clear_of : (S : List Point) (K : List Pair) → IsConvexPartition S K → (i j : ℕ) → Joins K i j → IsClear S i j
clear_of S K part i j h =
    let (e, m, ends) = joined K i j h in
    let c : IsClear S e.lo e.hi = part.clear e (contains_of K e m) in
    elim ends [
      | inl w ↦ subst (λ x. IsClear S x j) w.0 (subst (λ x. IsClear S e.lo x) w.1 c)
      | inr w ↦ clear_back S j i (subst (λ x. IsClear S x i) w.0 (subst (λ x. IsClear S e.lo x) w.1 c))
    ]

-- s is a further point of the closed triangle
pub record IsFurther (S : List Point) (p q r s : ℕ) : Type 0 where
  pub within : s < length S
  pub not_p : s ≢ p
  pub not_q : s ≢ q
  pub not_r : s ≢ r
  pub first : pos 0 ≤ℤ orientation S p q s
  pub second : pos 0 ≤ℤ orientation S q r s
  pub third : pos 0 ≤ℤ orientation S r p s

-- m is seen from r before x, or behind it
pub record Precedes (S : List Point) (q r m x : ℕ) : Type 0 where
  pub before : pos 0 ≤ℤ orientation S r m x
  pub behind : orientation S r m x ≡ pos 0 → orientation S q r x ≤ℤ orientation S q r m

-- the triangle and its sides
pub record IsFramed (S : List Point) (K : List Pair) (p q r : ℕ) : Type 0 where
  pub p_in : p < length S
  pub q_in : q < length S
  pub r_in : r < length S
  pub left : pos 0 <ℤ orientation S p q r
  pub first : Joins K p q
  pub second : Joins K q r
  pub third : Joins K r p

module _ (S : List Point) (K : List Pair) (accepted : AreAccepted S) (part : IsConvexPartition S K) (p q r : ℕ) (frame : IsFramed S K p q r) where
  apart : (i j k : ℕ) → pos 0 <ℤ orientation S i j k → (i ≢ j) × (k ≢ i) × (k ≢ j)
  apart i j k h =
      let o = orientation S in let B = IsBetween S in let L = plane_laws S in
      (λ e. left_second o B L k i j (rot_back o B L i j k h) (sym e), left_first o B L i j k h, left_second o B L i j k h)

  turned : (i j k : ℕ) → pos 0 <ℤ orientation S i j k → pos 0 <ℤ orientation S j k i
  turned i j k h = rot (orientation S) (IsBetween S) (plane_laws S) i j k h

  enclosed : (s : ℕ) → IsFurther S p q r s → IsEnclosed S p q r s
  enclosed s f =
      let qrp = turned p q r frame.left in let rpq = turned q r p qrp in record {
        first = off_side S p q r s accepted frame.p_in frame.q_in f.within (apart p q r frame.left).0 f.not_p f.not_q frame.left (clear_of S K part p q frame.first) f.first f.second f.third;
        second = off_side S q r p s accepted frame.q_in frame.r_in f.within (apart q r p qrp).0 f.not_q f.not_r qrp (clear_of S K part q r frame.second) f.second f.third f.first;
        third = off_side S r p q s accepted frame.r_in frame.p_in f.within (apart r p q rpq).0 f.not_r f.not_p rpq (clear_of S K part r p frame.third) f.third f.first f.second;
      }

  precedes_or : (m x : ℕ) → Precedes S q r m x ⊎ Precedes S q r x m
  precedes_or m x = by_sign (orientation S r m x)
      (λ h. inl (record { before = weak_of_positive (orientation S r m x) h; behind = λ e. absurd (omega (arith, ints)) }))
      (λ h. elim (negative_or (orientation S q r m -ℤ orientation S q r x)) [
        | inl a ↦ inr (record { before = (let e = swapped x m in omega (arith, ints)); behind = λ e. omega (arith, ints) })
        | inr rest ↦ inl (record { before = (let w : pos 0 ≤ℤ orientation S r m x = omega (arith, ints) in w); behind = λ e. elim rest [ inl a ↦ omega (arith, ints) | inr a ↦ omega (arith, ints) ] })
      ])
      (λ h. inr (record { before = (let e = swapped x m in omega (arith, ints)); behind = λ e. absurd (let f = swapped x m in omega (arith, ints)) }))
    where
      swapped : (x m : ℕ) → orientation S r x m ≡ pos 0 -ℤ orientation S r m x
      swapped x m = let e = (plane_laws S).cycle r x m in let f = (plane_laws S).swap x m r in let g = (plane_laws S).cycle m r x in let h = (plane_laws S).cycle r m x in let k = (plane_laws S).swap m x r in omega (arith, ints)

  precedes_on : (x m y : ℕ) → pos 0 <ℤ orientation S r p x → pos 0 <ℤ orientation S r p m → pos 0 <ℤ orientation S r p y → Precedes S q r x m → Precedes S q r m y → Precedes S q r x y
  precedes_on x m y hx hm hy a b =
      let five = (plane_laws S).five r p x m y in
      let u = mul_weak (orientation S r m y) (orientation S r p x) b.before (weak_of_positive (orientation S r p x) hx) in
      let v = mul_weak (orientation S r x m) (orientation S r p y) a.before (weak_of_positive (orientation S r p y) hy) in
      let c = *ℤ_comm (orientation S r x y) (orientation S r p m) in
      record {
        before = cancel_weak (orientation S r p m) (orientation S r x y) hm (omega (arith, ints));
        behind = λ line. (
            let z : orientation S r x y *ℤ orientation S r p m ≡ pos 0 = zero_left (orientation S r x y) (orientation S r p m) line in
            let d = *ℤ_comm (orientation S r m y) (orientation S r p x) in
            let e = *ℤ_comm (orientation S r x m) (orientation S r p y) in
            let f = a.behind (cancel_zero (orientation S r p y) (orientation S r x m) hy (omega (arith, ints))) in
            let g = b.behind (cancel_zero (orientation S r p x) (orientation S r m y) hx (omega (arith, ints))) in
            omega (arith, ints));
      }

  precedes_own : (m : ℕ) → Precedes S q r m m
  precedes_own m = record { before = (let e = zero_second (orientation S) (IsBetween S) (plane_laws S) r m in omega (arith, ints)); behind = λ e. omega (arith, ints) }

  further_or : (s : ℕ) → s < length S → IsFurther S p q r s ⊎ ¬ IsFurther S p q r s
  further_or s hs = elim (equal_or_not s p) [
    | inl e ↦ inr (λ f. f.not_p e)
    | inr sp ↦ elim (equal_or_not s q) [
      | inl e ↦ inr (λ f. f.not_q e)
      | inr sq ↦ elim (equal_or_not s r) [
        | inl e ↦ inr (λ f. f.not_r e)
        | inr sr ↦ elim (weak_or (orientation S p q s)) [
          | inr a ↦ inr (λ f. (let h = f.first in omega (arith, ints)))
          | inl a ↦ elim (weak_or (orientation S q r s)) [
            | inr b ↦ inr (λ f. (let h = f.second in omega (arith, ints)))
            | inl b ↦ elim (weak_or (orientation S r p s)) [
              | inr c ↦ inr (λ f. (let h = f.third in omega (arith, ints)))
              | inl c ↦ inl (record { within = hs; not_p = sp; not_q = sq; not_r = sr; first = a; second = b; third = c })
            ]
          ]
        ]
      ]
    ]
  ]
    where
      weak_or : (z : ℤ) → (pos 0 ≤ℤ z) ⊎ (z <ℤ pos 0)
      weak_or z = elim (negative_or z) [ inl h ↦ inr h | inr rest ↦ inl (elim rest [ inl h ↦ omega (arith, ints) | inr h ↦ omega (arith, ints) ]) ]

  -- of the further points below k, and of m, one is seen from r before all of them
  record First (k : ℕ) : Type 0 where
    m : ℕ
    further : IsFurther S p q r m
    first : (x : ℕ) → x < k → IsFurther S p q r x → Precedes S q r m x

  first_of : (s : ℕ) → IsFurther S p q r s → (k : ℕ) → k ≤ length S → First k
  first_of s fs zero h = record { m = s; further = fs; first = λ x l f. absurd (omega arith) }
  first_of s fs (suc k) h =
      let best = first_of s fs k (omega arith) in
      elim (further_or k (omega arith)) [
        | inr not ↦ record {
          m = best.m;
          further = best.further;
          first = λ x l f. elim (cases_lt x k) [
            | inl a ↦ best.first x a f
            | inr a ↦ absurd (let e : x ≡ k = omega arith in not (subst (λ y. IsFurther S p q r y) e f))
          ];
        }
        | inl fk ↦ elim (precedes_or best.m k) [
          | inl a ↦ record {
            m = best.m;
            further = best.further;
            first = λ x l f. elim (cases_lt x k) [
              | inl b ↦ best.first x b f
              | inr b ↦ (let e : k ≡ x = omega arith in subst (λ y. Precedes S q r best.m y) e a)
            ];
          }
          | inr a ↦ record {
            m = k;
            further = fk;
            first = λ x l f. elim (cases_lt x k) [
              | inl b ↦ precedes_on k best.m x (enclosed k fk).third (enclosed best.m best.further).third (enclosed x f).third a (best.first x b f)
              | inr b ↦ (let e : k ≡ x = omega arith in subst (λ y. Precedes S q r k y) e (precedes_own k))
            ];
          }
        ]
      ]

  module _ (m : ℕ) (further : IsFurther S p q r m) (first : (x : ℕ) → IsFurther S p q r x → Precedes S q r m x) (t : ℕ) (t_in : t < length S) (join : Joins K m t) where
    within_m : IsEnclosed S p q r m
    within_m = enclosed m further

    over : (i j u v : ℕ) → Joins K i j → Joins K u v → ¬ Over (orientation S) i j u v
    over i j u v g h x = never_cross S K part i j u v g h (over_cross (orientation S) (IsBetween S) (plane_laws S) i j u v x)

    -- no segment from m leads to the left of r, but to p
    not_before : pos 0 <ℤ orientation S m r t → IsFurther S p q r t → ⊥
    not_before left f = let h = (first t f).before in let e = (plane_laws S).swap r m t in omega (arith, ints)

    before_p : pos 0 <ℤ orientation S m r t → pos 0 <ℤ orientation S m t p → ⊥
    before_p left right =
        let o = orientation S in let B = IsBetween S in let L = plane_laws S in
        by_high (o p r t)
        (λ h. over p r m t (join_back K r p frame.third) join (record { end = h; start = within_m.third; first = right; second = rot_back o B L m r t left }))
        (λ h. (let near = not_beyond o B L p r t h in
        let (a, b) = within_two S p q r m t frame.left within_m left right near in
        not_before left (record {
          within = t_in;
          not_p = λ e. (apart m t p right).2 (sym e);
          not_q = (apart q r t b).1;
          not_r = (apart m r t left).2;
          first = weak_of_positive (o p q t) a;
          second = weak_of_positive (o q r t) b;
          third = near;
        })))

    after_p : pos 0 <ℤ orientation S m p t → pos 0 <ℤ orientation S m t q → (pos 0 <ℤ orientation S m r t) ⊎ IsBetween S m r t → ⊥
    after_p left right need =
        let o = orientation S in let B = IsBetween S in let L = plane_laws S in
        by_high (o q p t)
        (λ h. over q p m t (join_back K p q frame.first) join (record { end = h; start = within_m.first; first = right; second = rot_back o B L m p t left }))
        (λ h. (let near = not_beyond o B L q p t h in
        let round : IsEnclosed S q r p m = record { first = within_m.second; second = within_m.third; third = within_m.first } in
        let (a, b) = within_two S q r p m t (turned p q r frame.left) round left right near in
        let f : IsFurther S p q r t = record {
          within = t_in;
          not_p = (apart m p t left).2;
          not_q = λ e. (apart m t q right).2 (sym e);
          not_r = (apart r p t b).1;
          first = near;
          second = weak_of_positive (o q r t) a;
          third = weak_of_positive (o r p t) b;
        } in
        elim need [
          | inl before ↦ not_before before f
          | inr behind ↦ (
              let line : o r t m ≡ pos 0 = L.on m r t behind in
              let e = L.cycle m r t in let e2 = L.cycle r t m in let e3 = L.swap r m t in
              let (c, d) = L.cut q m r t behind a in
              let sum = L.four q r m t in
              let height = (first t f).behind (omega (arith, ints)) in
              omega (arith, ints))
        ]))

    -- straight towards p it leads to p itself
    at_p : pos 0 <ℤ orientation S m r t → orientation S m p t ≡ pos 0 → t ≡ p
    at_p left line = elim (equal_or_not t p) [
      | inl e ↦ e
      | inr tp ↦ absurd (elim (one_between (point S m) (point S p) (point S t)
          (points_differ S m p accepted.apart further.within frame.p_in further.not_p)
          (points_differ S m t accepted.apart further.within t_in (λ e. (apart m r t left).1 (sym e)))
          (points_differ S p t accepted.apart frame.p_in t_in (λ e. tp (sym e))) line) [
            | inl h ↦ (let a = rot_back (orientation S) (IsBetween S) (plane_laws S) r p m within_m.third in
                let b = other_side_right (point S m) (point S t) (point S p) (point S r) (between_swap (point S m) (point S p) (point S t) h) a in
                omega (arith, ints))
            | inr rest ↦ elim rest [ inl h ↦ clear_of S K part m t join p frame.p_in h | inr h ↦ between_m_and_p tp h ]
          ])
    ]
      where
        between_m_and_p : t ≢ p → IsBetween S t m p → ⊥
        between_m_and_p tp h =
            let o = orientation S in let B = IsBetween S in let L = plane_laws S in
            let (a, b) = L.cut q t m p h (turned p q m within_m.first) in
            let (c, d) = L.cut r t p m (between_swap (point S t) (point S m) (point S p) h) within_m.third in
            let e = second_side S p q r m t frame.left within_m d (weak_of_positive (o r p t) c) in
            not_before left (record {
              within = t_in;
              not_p = tp;
              not_q = (apart q r t e).1;
              not_r = (apart m r t left).2;
              first = weak_of_positive (o p q t) (rot_back o B L q t p b);
              second = weak_of_positive (o q r t) e;
              third = weak_of_positive (o r p t) c;
            })

    -- a need of m for r is met by p alone
    leads_to_p : (pos 0 <ℤ orientation S m r t) ⊎ IsBetween S m r t → t ≡ p
    leads_to_p (inl left) = by_sign (orientation S m p t)
        (λ h. absurd (after_p h (beyond_p h) (inl left)))
        (λ h. at_p left h)
        (λ h. absurd (before_p left (let e = (plane_laws S).cycle m p t in let f = (plane_laws S).swap m t p in let g = (plane_laws S).cycle p t m in let k = (plane_laws S).swap p m t in let l = (plane_laws S).cycle t m p in omega (arith, ints))))
      where
        beyond_p : pos 0 <ℤ orientation S m p t → pos 0 <ℤ orientation S m t q
        beyond_p h =
            let o = orientation S in let B = IsBetween S in let L = plane_laws S in
            high_of_low (o m p r) (o m t q) (o m q r) (o m t p) (o m p q) (o m t r) (L.five m t p q r)
            (low_last o B L m r p (rot_back o B L r p m within_m.third)) (rot_back o B L q r m within_m.second) (low_last o B L m p t h) (rot_back o B L p q m within_m.first) (low_last o B L m r t left)
    leads_to_p (inr behind) =
        let o = orientation S in let B = IsBetween S in let L = plane_laws S in
        let swapped = between_swap (point S m) (point S r) (point S t) behind in
        let a : pos 0 <ℤ o m p t = other_side (point S m) (point S t) (point S r) (point S p) swapped (low_last o B L m r p (rot_back o B L r p m within_m.third)) in
        let b : o m q t <ℤ pos 0 = other_side_right (point S m) (point S t) (point S r) (point S q) swapped (rot_back o B L q r m within_m.second) in
        absurd (after_p a (let e = flip o B L m q t in omega (arith, ints)) (inr behind))

  -- the first further point, seen from r, would be joined with p
  none_further : ((s : ℕ) → Joins K p s → ¬ IsAmid S p q r s) → (s : ℕ) → ¬ IsFurther S p q r s
  none_further clear s f =
      let best = first_of s f (length S) (omega arith) in
      let m = best.m in
      let in_ = enclosed m best.further in
      let inner = enclosed_is_inner S p q r m accepted frame.p_in frame.q_in frame.r_in best.further.within in_ in
      let (t, ht, join, need) = part.needs m best.further.within inner r frame.r_in (λ e. best.further.not_r (sym e)) in
      let e : t ≡ p = leads_to_p m best.further (λ x g. best.first x g.within g) t ht join need.1 in
      clear m (join_back K m p (subst (λ x. Joins K m x) e join)) (in_.first, turned r p m in_.third)

-- a triangle whose first corner sees no segment inside is empty
pub seen_empty : (S : List Point) (K : List Pair) (p q r : ℕ) → AreAccepted S → IsConvexPartition S K → IsFramed S K p q r → ((s : ℕ) → Joins K p s → ¬ IsAmid S p q r s) → IsEmptyTriangle S p q r
seen_empty S K p q r accepted part frame clear s hs np nq nr inside =
    none_further S K accepted part p q r frame clear s (record { within = hs; not_p = np; not_q = nq; not_r = nr; first = inside.0; second = inside.1; third = inside.2 })
