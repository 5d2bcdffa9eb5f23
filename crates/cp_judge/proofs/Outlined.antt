-- The order of the sweep, tested; and what two chains say of the border.
use Rattle.std.proofs.Common.{◌≡◌, ◌≢◌, ℕ, ◌+◌, ◌-◌, ◌<◌, ◌≤◌, List, length, slice_index, ℤ, pos, ◌-ℤ◌, ◌<ℤ◌, ◌≤ℤ◌, ◌⊎◌, inl, inr, arith, subst, sym, ◌∙◌, Bool, false, true≢false, replicate, refl}
use Rattle.std.specs.List.{Contains}
use Rattle.std.specs.List.Sorted.{IsPermutation}
use Rattle.std.proofs.lemmas.Int.{ints}
use Rattle.std.proofs.lemmas.Bool.{cases_lt}
use Rattle.std.proofs.lemmas.List.{get_or_default, get_or-replicate}
use Rattle.std.proofs.lemmas.List.Elements.{All-from_get_or, Contains-get_or}
use Rattle.std.proofs.lemmas.List.Sorted.{All-permutation, Contains-permutation, IsPermutation-sym}
use Rattle.plane.specs.declared.coordinates.Point.{Point}
use Rattle.plane.specs.declared.coordinates.Turn.{Turn}
use Rattle.plane.specs.declared.coordinates.Turn.TheVariants.{Left, Straight, Right}
use Rattle.plane.specs.declared.segment.Pair.{Pair}
use Rattle.plane.specs.Geometry.{point, IsTurn, IsBorderPair, IsInner}
use Rattle.plane.specs.Accepted.{AreApart}
use Rattle.plane.specs.Hull.{IsBorderStep}
use Rattle.plane.proofs.laws.Line.{same_point}
use Rattle.plane.proofs.laws.Border.{step_of_border, border_of_left, border_of_right, not_inner_left, not_inner_right}
use Rattle.number_laws.proofs.Signs.{by_sign}
use Rattle.partition_defs.specs.Partition.{Joins, HasBorder}
use Rattle.partition_defs.specs.Sweep.{IsSweptBefore}
use Rattle.cp_judge.specs.Chains.{sided, HasIndices, IsRising, IsOrder, stop, IsChain, HasPairs, AreOnBorder, MarksStops, HasSide}
use Rattle.plane_laws.specs.Order.{IsBefore}
use Rattle.plane_laws.proofs.Order.{before_trans}
use Rattle.cp_judge.proofs.Chained.{chain_step, step_on_chain}
use Rattle.plane.proofs.laws.Border.{border_back}
use Rattle.partition_defs.proofs.laws.Joined.{join_back}
use Rattle.plane_laws.proofs.Separation.{one_first}

-- all indices in another order
pub indices_moved : (S : List Point) (O P : List ℕ) → length O ≡ length S → length P ≡ length S → ((k : ℕ) → k < length O → slice_index O k ≡ k) → IsPermutation O P → HasIndices S P
indices_moved S O P count moved own perm = record {
  count = moved;
  within = λ k h. All-permutation (λ v. v < length S) O P perm (All-from_get_or (λ v. v < length S) O 0 (λ i l. let e = own i l in omega arith)) k 0 h;
  whole = λ v h. (
      let hv : v < length O = omega arith in
      let there = subst (Contains O) (own v hv) (Contains-get_or O v 0 hv) in
      let (k, hk, e) = Contains-permutation O P v perm there in
      (k, hk, get_or_default P k 0 v hk ∙ e));
}

pub order_of : (S : List Point) (O : List ℕ) → HasIndices S O → IsRising S O (length O) → IsOrder S O
order_of S O indices rising = record { count = indices.count; within = indices.within; whole = indices.whole; rising = rising }

-- one more point that comes after the last
pub rising_more : (S : List Point) (O : List ℕ) (k : ℕ) → 1 ≤ k → IsSweptBefore S (slice_index O (k - 1)) (slice_index O k) → IsRising S O k → IsRising S O (k + 1)
rising_more S O k some next before i j ij jk = elim (cases_lt j k) [
  | inl l ↦ before i j ij l
  | inr l ↦
      (let same : j ≡ k = omega arith in
      let R : ℕ → Type 0 = λ x. IsSweptBefore S (slice_index O i) (slice_index O x) in
      subst R (sym same) (elim (cases_lt i (k - 1)) [
        | inl m ↦ before_trans _ (point S (slice_index O (k - 1))) _ (before i (k - 1) m (omega arith)) next
        | inr m ↦ (let e : i ≡ k - 1 = omega arith in let Q : ℕ → Type 0 = λ x. IsSweptBefore S (slice_index O x) (slice_index O k) in subst Q (sym e) next)
      ]))
]

-- what a turn says of the orientation on a side
pub strictly_sided : (side : Turn) (z : ℤ) → side ≢ Straight → IsTurn side z → pos 0 <ℤ sided side z
strictly_sided Left z bent h = h
strictly_sided Straight z bent h = absurd (bent refl)
strictly_sided Right z bent h = omega (arith, ints)

pub weakly_sided : (side : Turn) (z : ℤ) → IsTurn side z → pos 0 ≤ℤ sided side z
weakly_sided Left z h = omega (arith, ints)
weakly_sided Straight z h = omega (arith, ints)
weakly_sided Right z h = omega (arith, ints)

-- the steps of a chain whose pairs are in K
pub side_of_pairs : (S : List Point) (O C : List ℕ) (K : List Pair) (side : Turn) → side ≢ Straight → AreApart S → IsOrder S O → IsChain S O C side → HasPairs O C K → HasSide S K side
side_of_pairs S O C K side bent apart order chain pairs v w hv forward step =
    let (i, hi, ev, ew) = step_on_chain S O C side v w bent apart order chain hv forward step in
    subst (λ x. Joins K x w) ev (subst (λ y. Joins K (stop O C i) y) ew (pairs i hi))

step_not_inner : (S : List Point) (side : Turn) (v w : ℕ) → side ≢ Straight → IsBorderStep S side v w → ¬ IsInner S v
step_not_inner S Left v w bent step = not_inner_left S v w step
step_not_inner S Straight v w bent step = absurd (bent refl)
step_not_inner S Right v w bent step = not_inner_right S v w step

step_pair : (S : List Point) (side : Turn) (v w : ℕ) → side ≢ Straight → IsBorderStep S side v w → IsBorderPair S v w
step_pair S Left v w bent step = border_of_left S v w step
step_pair S Straight v w bent step = absurd (bent refl)
step_pair S Right v w bent step = border_of_right S v w step

-- a point of a chain isn't inner
stop_not_inner : (S : List Point) (O C : List ℕ) (side : Turn) → side ≢ Straight → IsOrder S O → IsChain S O C side → (i : ℕ) → i < length C → ¬ IsInner S (stop O C i)
stop_not_inner S O C side bent order chain i hi inner = elim (cases_lt (i + 1) (length C)) [
  | inl more ↦ step_not_inner S side _ _ bent (chain_step S O C side bent order chain i more) inner
  | inr last ↦
      (let several = chain.several in
      let before : i - 1 + 1 ≡ i = omega arith in
      let step = chain_step S O C side bent order chain (i - 1) (omega arith) in
      let B : ℕ → Type 0 = λ x. IsBorderPair S (stop O C (i - 1)) (stop O C x) in
      let A : ℕ → Type 0 = λ x. stop O C x ≢ stop O C (i - 1) in
      let pair = subst B before (step_pair S side _ _ bent step) in
      let apart = subst A before step.apart in
      let pos_in : slice_index C (i - 1) < slice_index C (i - 1 + 1) = chain.rising (i - 1) (omega arith) in
      let end = chain.last i (omega arith) in
      let same : slice_index C (i - 1 + 1) ≡ slice_index C i = (let Q : ℕ → Type 0 = λ x. slice_index C (i - 1 + 1) ≡ slice_index C x in subst Q before refl) in
      inner (stop O C (i - 1)) (order.within _ (omega arith)) (λ e. apart (sym e)) (border_back S _ _ pair))
]

pub marks_on_border : (S : List Point) (O C : List ℕ) (side : Turn) (M N : List Bool) → side ≢ Straight → IsOrder S O → IsChain S O C side → MarksStops O C M N → AreOnBorder S M → AreOnBorder S N
marks_on_border S O C side M N bent order chain marks old v hv t inner = elim (marks v t) [
  | inl before ↦ old v hv before inner
  | inr (i, hi, e) ↦ stop_not_inner S O C side bent order chain i hi (subst (IsInner S) (sym e) inner)
]

-- the border, from its two sides
pub border_of_sides : (S : List Point) (K : List Pair) → AreApart S → HasSide S K Left → HasSide S K Right → HasBorder S K
border_of_sides S K apart left right i j ij hj pair =
    let hi : i < length S = omega arith in
    let ne : j ≢ i = λ e. omega arith in
    elim (one_first (point S i) (point S j) (apart i j ij hj)) [
      | inl h ↦ elim (step_of_border S i j hj ne pair) [ inl step ↦ left i j hi h step | inr step ↦ right i j hi h step ]
      | inr h ↦ join_back K j i (elim (step_of_border S j i hi (λ e. ne (sym e)) (border_back S i j pair)) [ inl step ↦ left j i hj h step | inr step ↦ right j i hj h step ])
    ]

-- what is joined in a list in another order
pub border_moved : (S : List Point) (K L : List Pair) → IsPermutation K L → HasBorder S L → HasBorder S K
border_moved S K L perm border i j ij hj pair =
    let (k, e, hk, at, ends) = border i j ij hj pair in
    let (m, hm, there) = Contains-permutation L K e (IsPermutation-sym K L perm) (k, hk, at) in
    (m, e, hm, there, ends)

-- where no point is marked
pub none_marked : (S : List Point) (n : ℕ) → length S ≤ n → AreOnBorder S (replicate n false)
none_marked S n few v hv t inner = true≢false (sym t ∙ get_or-replicate n v false false (omega arith))
