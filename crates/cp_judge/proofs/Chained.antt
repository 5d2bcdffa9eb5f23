-- Of a chain that bends one way: all points are on one side of each of its pairs, these are border pairs, and there are no
-- others on that side.
use Rattle.std.proofs.Common.{◌≡◌, ◌≢◌, ℕ, zero, suc, ◌+◌, ◌-◌, ◌<◌, ◌≤◌, List, length, slice_index, ℤ, pos, neg_ℤ, ◌<ℤ◌, ◌≤ℤ◌, inl, inr, ⊎_elim, arith, subst, sym, ◌∙◌, ap, refl}
use Rattle.std.proofs.lemmas.Int.{ints}
use Rattle.std.proofs.lemmas.Bool.{cases_order, cases_lt}
use Rattle.plane.specs.declared.coordinates.Point.{Point}
use Rattle.plane.specs.declared.coordinates.Turn.{Turn}
use Rattle.plane.specs.declared.coordinates.Turn.TheVariants.{Left, Straight, Right}
use Rattle.plane.specs.Geometry.{point, area, orientation, IsBetween}
use Rattle.plane.specs.Accepted.{AreApart}
use Rattle.plane.specs.Hull.{IsOnSide, IsBorderStep}
use Rattle.plane.proofs.laws.Area.{area_swap, area_first, area_second}
use Rattle.plane.proofs.laws.Along.{one_between}
use Rattle.cp_judge.specs.Chains.{sided, IsOrder, stop, IsChain}
use Rattle.cp_judge.proofs.Forth.{turn_later, turn_earlier, none_amid, between_order}
use Rattle.plane_laws.specs.Order.{IsBefore}
use Rattle.plane_laws.proofs.Order.{before_asym}
use Rattle.number_laws.proofs.Signs.{weak_of_positive}
use Rattle.cp_judge.proofs.Sided.{straight_sided}

on_side : (side : Turn) (z : ℤ) → side ≢ Straight → pos 0 ≤ℤ sided side z → IsOnSide side z
on_side Left z bent h = h
on_side Straight z bent h = absurd (bent refl)
on_side Right z bent h = omega (arith, ints)

sided_of : (side : Turn) (z : ℤ) → side ≢ Straight → IsOnSide side z → pos 0 ≤ℤ sided side z
sided_of Left z bent h = h
sided_of Straight z bent h = absurd (bent refl)
sided_of Right z bent h = omega (arith, ints)

strictly_off : (side : Turn) (z : ℤ) → z ≡ pos 0 → ¬ (pos 0 <ℤ sided side z)
strictly_off Left z e h = omega (arith, ints)
strictly_off Straight z e h = omega (arith, ints)
strictly_off Right z e h = omega (arith, ints)

both_sides : (side : Turn) (y z : ℤ) → y ≡ neg_ℤ z → pos 0 ≤ℤ sided side y → pos 0 ≤ℤ sided side z → y ≡ pos 0
both_sides Left y z e h k = omega (arith, ints)
both_sides Straight y z e h k = omega (arith, ints)
both_sides Right y z e h k = omega (arith, ints)

-- the point at position k of the order
abbrev at_place : List Point → List ℕ → ℕ → Point
at_place S O k = point S (slice_index O k)

-- what a position says of the points at it and at the chain's ends of a pair
same_stop : (S : List Point) (O C : List ℕ) (i s : ℕ) → s ≡ slice_index C i → at_place S O s ≡ at_place S O (slice_index C i)
same_stop S O C i s e = ap (λ k. at_place S O k) e

at_end : (S : List Point) (O C : List ℕ) (side : Turn) (i s : ℕ) → s ≡ slice_index C (i + 1) → pos 0 ≤ℤ sided side (orientation S (stop O C i) (stop O C (i + 1)) (slice_index O s))
at_end S O C side i s e =
    straight_sided side _ (ap (λ x. area (at_place S O (slice_index C i)) (at_place S O (slice_index C (i + 1))) x) (same_stop S O C (i + 1) s e) ∙ area_second (at_place S O (slice_index C i)) (at_place S O (slice_index C (i + 1))))

at_start : (S : List Point) (O C : List ℕ) (side : Turn) (i s : ℕ) → s ≡ slice_index C i → pos 0 ≤ℤ sided side (orientation S (stop O C i) (stop O C (i + 1)) (slice_index O s))
at_start S O C side i s e =
    straight_sided side _ (ap (λ x. area (at_place S O (slice_index C i)) (at_place S O (slice_index C (i + 1))) x) (same_stop S O C i s e) ∙ area_first (at_place S O (slice_index C i)) (at_place S O (slice_index C (i + 1))))

-- each number of the chain is a position
inside_order : (S : List Point) (O C : List ℕ) (side : Turn) → IsChain S O C side → (d i : ℕ) → i + 1 + d ≡ length C → slice_index C i < length O
inside_order S O C side chain zero i e = let l = chain.last i (omega arith) in omega arith
inside_order S O C side chain (suc d) i e =
    let next = inside_order S O C side chain d (i + 1) (omega arith) in let r = chain.rising i (omega arith) in omega arith

stop_in : (S : List Point) (O C : List ℕ) (side : Turn) → IsChain S O C side → (i : ℕ) → i < length C → slice_index C i < length O
stop_in S O C side chain i h = inside_order S O C side chain (length C - (i + 1)) i (omega arith)

-- points from the end of a pair of the chain on aren't beyond it
later : (S : List Point) (O C : List ℕ) (side : Turn) → IsOrder S O → IsChain S O C side → (d i s : ℕ) → i + 1 + 1 + d ≡ length C → slice_index C (i + 1) ≤ s → s < length O
    → pos 0 ≤ℤ sided side (orientation S (stop O C i) (stop O C (i + 1)) (slice_index O s))
later S O C side order chain zero i s e from hs = at_end S O C side i s (let l = chain.last (i + 1) (omega arith) in omega arith)
later S O C side order chain (suc d) i s e from hs = elim (cases_lt (slice_index C (i + 1)) s) [
  | inl past ↦
      (let i1 : i + 1 < length C = omega arith in
      let i2 : i + 1 + 1 < length C = omega arith in
      let r1 = chain.rising i i1 in
      let r2 : slice_index C (i + 1) < slice_index C (i + 1 + 1) = chain.rising (i + 1) i2 in
      let h2 = stop_in S O C side chain (i + 1 + 1) i2 in
      let seen : pos 0 ≤ℤ sided side (orientation S (stop O C (i + 1)) (stop O C (i + 1 + 1)) (slice_index O s)) =
      elim (cases_lt s (slice_index C (i + 1 + 1))) [
        | inl near ↦ weak_of_positive _ (chain.inside (i + 1) i2 s past near)
        | inr far ↦ later S O C side order chain d (i + 1) s (omega arith) far hs
      ] in
      turn_later side (at_place S O (slice_index C i)) (at_place S O (slice_index C (i + 1))) (at_place S O (slice_index C (i + 1 + 1))) (at_place S O s)
      (order.rising _ _ r1 (omega arith)) (order.rising _ _ r2 h2) (order.rising _ _ past hs) (chain.bent i i2) seen)
  | inr not ↦ at_end S O C side i s (omega arith)
]

-- points up to the start of a pair aren't beyond it either
earlier : (S : List Point) (O C : List ℕ) (side : Turn) → IsOrder S O → IsChain S O C side → (i s : ℕ) → i + 1 < length C → s ≤ slice_index C i
    → pos 0 ≤ℤ sided side (orientation S (stop O C i) (stop O C (i + 1)) (slice_index O s))
earlier S O C side order chain zero s hi to = at_start S O C side 0 s (let f = chain.first in omega arith)
earlier S O C side order chain (suc j) s hi to =
    let e : suc j ≡ j + 1 = omega arith in
    let P : ℕ → Type 0 = λ i. pos 0 ≤ℤ sided side (orientation S (stop O C i) (stop O C (i + 1)) (slice_index O s)) in
    let to' : s ≤ slice_index C (j + 1) = subst (λ i. s ≤ slice_index C i) e to in
    subst P (sym e) (elim (cases_lt s (slice_index C (j + 1))) [
      | inl before ↦
          (let i1 : j + 1 < length C = omega arith in
          let i2 : j + 1 + 1 < length C = omega arith in
          let r1 = chain.rising j i1 in
          let r2 : slice_index C (j + 1) < slice_index C (j + 1 + 1) = chain.rising (j + 1) i2 in
          let h1 = stop_in S O C side chain (j + 1) i1 in
          let h2 = stop_in S O C side chain (j + 1 + 1) i2 in
          let seen : pos 0 ≤ℤ sided side (orientation S (stop O C j) (stop O C (j + 1)) (slice_index O s)) =
          elim (cases_lt (slice_index C j) s) [
            | inl near ↦ weak_of_positive _ (chain.inside j i1 s near before)
            | inr far ↦ earlier S O C side order chain j s i1 far
          ] in
          turn_earlier side (at_place S O (slice_index C j)) (at_place S O (slice_index C (j + 1))) (at_place S O (slice_index C (j + 1 + 1))) (at_place S O s)
          (order.rising _ _ r1 h1) (order.rising _ _ r2 h2) (order.rising _ _ before h1) (chain.bent j i2) seen)
      | inr not ↦ at_start S O C side (j + 1) s (omega arith)
    ])

-- no point is beyond a pair of the chain
none_beyond : (S : List Point) (O C : List ℕ) (side : Turn) → IsOrder S O → IsChain S O C side → (i s : ℕ) → i + 1 < length C → s < length O
    → pos 0 ≤ℤ sided side (orientation S (stop O C i) (stop O C (i + 1)) (slice_index O s))
none_beyond S O C side order chain i s hi hs = elim (cases_lt (slice_index C i) s) [
  | inl past ↦ elim (cases_lt s (slice_index C (i + 1))) [
    | inl near ↦ weak_of_positive _ (chain.inside i hi s past near)
    | inr far ↦ later S O C side order chain (length C - (i + 1 + 1)) i s (omega arith) far hs
  ]
  | inr to ↦ earlier S O C side order chain i s hi to
]

-- of positions, the one whose point comes first is the lesser
position_before : (S : List Point) (O : List ℕ) → IsOrder S O → (j k : ℕ) → j < length O → k < length O → IsBefore (at_place S O j) (at_place S O k) → j < k
position_before S O order j k hj hk h =
    ⊎_elim (λ e. absurd (let P : ℕ → Type 0 = λ i. IsBefore (at_place S O j) (at_place S O i) in let own = subst P (sym e) h in before_asym _ _ own own))
    (λ u. ⊎_elim (λ l. l) (λ l. absurd (before_asym _ _ h (order.rising k j l hj))) u) (cases_order j k)

-- a pair of the chain is a step on the border
pub chain_step : (S : List Point) (O C : List ℕ) (side : Turn) → side ≢ Straight → IsOrder S O → IsChain S O C side → (i : ℕ) → i + 1 < length C
    → IsBorderStep S side (stop O C i) (stop O C (i + 1))
chain_step S O C side bent order chain i hi =
    let hv = stop_in S O C side chain i (omega arith) in
    let hw = stop_in S O C side chain (i + 1) hi in
    let r = order.rising _ _ (chain.rising i hi) hw in
    record {
      within = order.within _ hw;
      apart = λ e. (let P : ℕ → Type 0 = λ x. IsBefore (point S (stop O C i)) (point S x) in let own = subst P e r in before_asym _ _ own own);
      clear = λ k hk on. (
          let (j, hj, ej) = order.whole k hk in
          let B : ℕ → Type 0 = λ x. IsBetween S x (stop O C i) (stop O C (i + 1)) in
          let here = subst B (sym ej) on in
          let (l, m) = between_order (at_place S O j) (point S (stop O C i)) (point S (stop O C (i + 1))) here r in
          strictly_off side (orientation S (stop O C i) (stop O C (i + 1)) (slice_index O j))
          (let e = area_swap (point S (stop O C i)) (at_place S O j) (point S (stop O C (i + 1))) in let z = here.0 in omega (arith, ints))
          (chain.inside i hi j (position_before S O order _ j hv hj l) (position_before S O order j _ hj hw m)));
      all = λ k hk. (
          let (j, hj, ej) = order.whole k hk in
          let A : ℕ → Type 0 = λ x. IsOnSide side (orientation S (stop O C i) (stop O C (i + 1)) x) in
          subst A ej (on_side side _ bent (none_beyond S O C side order chain i j hi hj)));
    }

-- a position before the last stop is at a stop or between two
located : (S : List Point) (O C : List ℕ) (side : Turn) → IsChain S O C side → (n k : ℕ) → n < length C → k < slice_index C n
    → (i : ℕ) × (i + 1 < length C) × (slice_index C i ≤ k) × (k < slice_index C (i + 1))
located S O C side chain zero k hn h = absurd (let f = chain.first in omega arith)
located S O C side chain (suc n) k hn h =
    let e : suc n ≡ n + 1 = omega arith in
    let h' : k < slice_index C (n + 1) = subst (λ i. k < slice_index C i) e h in
    elim (cases_lt k (slice_index C n)) [
      | inl l ↦ located S O C side chain n k (omega arith) l
      | inr l ↦ (n, omega arith, l, h')
    ]

-- each step forward on the border, on this side, is a pair of the chain
pub step_on_chain : (S : List Point) (O C : List ℕ) (side : Turn) (v w : ℕ) → side ≢ Straight → AreApart S → IsOrder S O → IsChain S O C side → v < length S
    → IsBefore (point S v) (point S w) → IsBorderStep S side v w → (i : ℕ) × (i + 1 < length C) × (stop O C i ≡ v) × (stop O C (i + 1) ≡ w)
step_on_chain S O C side v w bent apart order chain hv forward step =
    let (k, hk, ek) = order.whole v hv in
    let (m, hm, em) = order.whole w step.within in
    let F : ℕ → ℕ → Type 0 = λ x y. IsBefore (point S x) (point S y) in
    let moved : F (slice_index O k) (slice_index O m) = subst (λ x. F x (slice_index O m)) (sym ek) (subst (λ y. F v y) (sym em) forward) in
    let km = position_before S O order k m hk hm moved in
    let T : ℕ → ℕ → Type 0 = λ x y. IsBorderStep S side x y in
    let here : T (slice_index O k) (slice_index O m) = subst (λ x. T x (slice_index O m)) (sym ek) (subst (λ y. T v y) (sym em) step) in
    let last = chain.last (length C - 1) (let s = chain.several in omega arith) in
    let (i, hi, low, high) = located S O C side chain (length C - 1) k (let s = chain.several in omega arith) (omega arith) in
    let (same_v, same_w) = on_pair S O C side k m i bent apart order chain hk hm km hi low high here in
    (i, hi, ap (λ x. slice_index O x) same_v ∙ ek, ap (λ x. slice_index O x) same_w ∙ em)
  where
    on_pair : (S : List Point) (O C : List ℕ) (side : Turn) (k m i : ℕ) → side ≢ Straight → AreApart S → IsOrder S O → IsChain S O C side → k < length O → m < length O → k < m → i + 1 < length C
        → slice_index C i ≤ k → k < slice_index C (i + 1) → IsBorderStep S side (slice_index O k) (slice_index O m) → (slice_index C i ≡ k) × (slice_index C (i + 1) ≡ m)
    on_pair S O C side k m i bent apart order chain hk hm km hi low high step =
        let ha = stop_in S O C side chain i (omega arith) in
        let hb = stop_in S O C side chain (i + 1) hi in
        let vw = order.rising k m km hm in
        let vb = order.rising k _ high hb in
        elim (cases_lt (slice_index C i) k) [
          | inl past ↦ absurd (none_amid side (point S (stop O C i)) (point S (stop O C (i + 1))) (at_place S O k) (at_place S O m) (order.rising _ k past hk) vb vw (chain.inside i hi k past high)
              (sided_of side _ bent (step.all _ (order.within _ ha))) (sided_of side _ bent (step.all _ (order.within _ hb))))
          | inr not ↦
              (let same : slice_index C i ≡ k = omega arith in
              (same, at_next S O C side k m i bent apart order chain hk hm km hi same high step))
        ]
      where
        at_next : (S : List Point) (O C : List ℕ) (side : Turn) (k m i : ℕ) → side ≢ Straight → AreApart S → IsOrder S O → IsChain S O C side → k < length O → m < length O → k < m → i + 1 < length C
            → slice_index C i ≡ k → k < slice_index C (i + 1) → IsBorderStep S side (slice_index O k) (slice_index O m) → slice_index C (i + 1) ≡ m
        at_next S O C side k m i bent apart order chain hk hm km hi same high step =
            let b = slice_index C (i + 1) in
            let hb = stop_in S O C side chain (i + 1) hi in
            let v = at_place S O k in let w = at_place S O m in let q = at_place S O b in
            let vw = order.rising k m km hm in
            let vb = order.rising k b high hb in
            let A : ℕ → Type 0 = λ x. pos 0 ≤ℤ sided side (orientation S (slice_index O x) (stop O C (i + 1)) (slice_index O m)) in
            let seen : pos 0 ≤ℤ sided side (area v q w) = subst A same (none_beyond S O C side order chain i m hi hm) in
            let flat : area v q w ≡ pos 0 = both_sides side (area v q w) (area v w q) (area_swap v q w) seen (sided_of side _ bent (step.all _ (order.within _ hb))) in
            ⊎_elim (λ e. e)
            (λ u. absurd (⊎_elim
            (λ bm. elim (one_between v q w (differ S O order k b hk hb high) (differ S O order k m hk hm km) (differ S O order b m hb hm bm) flat) [
              | inl h ↦ before_asym q v (between_order v q w h (order.rising b m bm hm)).0 vb
              | inr rest ↦ elim rest [
                | inl h ↦ step.clear _ (order.within _ hb) h
                | inr h ↦ before_asym w q (between_order w v q h vb).1 (order.rising b m bm hm)
              ]
            ])
            (λ mb. let I : ℕ → Type 0 = λ x. pos 0 <ℤ sided side (orientation S (slice_index O x) (stop O C (i + 1)) (slice_index O m)) in
            strictly_off side (area v q w) flat (subst I same (chain.inside i hi m (omega arith) mb))) u))
            (cases_order b m)
          where
            differ : (S : List Point) (O : List ℕ) → IsOrder S O → (j k : ℕ) → j < length O → k < length O → j < k → at_place S O j ≢ at_place S O k
            differ S O order j k hj hk l e =
                let r = order.rising j k l hk in
                let P : Point → Type 0 = λ p. IsBefore (at_place S O j) p in
                let own = subst P (sym e) r in before_asym _ _ own own
