-- The corners of a flip: no neighbour stands in the direction in which the new one comes.
use Rattle.std.proofs.Common.{◌≡◌, ◌≢◌, ℕ, ◌+◌, ◌<◌, Bool, true, nat_eq, List, [], ◌∷◌, length, ℤ, pos, ◌-ℤ◌, ◌*ℤ◌, neg_ℤ, ◌<ℤ◌, inl, inr, ◌⊎◌, arith, sym, ◌∙◌, ap, subst, Some}
use Rattle.std.proofs.lemmas.Int.{ints}
use Rattle.std.proofs.lemmas.Bool.{cases_lt}
use Rattle.std.proofs.lemmas.Bool.Decides.{Decides-eqb, Decides-or}
use Rattle.number_laws.proofs.Naturals.{equal_or_not}
use Rattle.number_laws.proofs.Crosses.{cross, cross_back, neg_cross, neg_neg, three_across, three_upward}
use Rattle.number_laws.proofs.Signs.{positive_positive, zero_right, zero_left, cancel_strict}
use Rattle.plane.specs.declared.coordinates.Point.{Point}
use Rattle.plane.specs.declared.segment.Pair.{Pair}
use Rattle.plane.specs.Geometry.{point, area, orientation}
use Rattle.plane.proofs.laws.Area.{area_cycle, area_swap, area_back, area_first, area_second}
use Rattle.partition_defs.specs.Partition.{HasEnds}
use Rattle.star.specs.Turn.{PointTogether, IsInDirection, IsBeforeInTurn}
use Rattle.star.specs.Stars.{Seen, IsStar, IsOrderly, IsNeighbour, IsNext, IsFree, entry, around}
use Rattle.star.proofs.laws.Turning.{Up, up, down, not_together, not_together_after}
use Rattle.star.proofs.laws.Marks.{one_position}
use Rattle.star.proofs.laws.Between.{next_or_amid, around_inside}
use Rattle.journal_defs.specs.Edits.{is_end}
use Rattle.journal_defs.specs.Agree.{AreAgreeing}
use Rattle.journal_defs.specs.Neighbours.{leave_out}
use Rattle.journal_defs.specs.Table.{ShowsApex, IsLowRight, IsHighLeft, FitsFlip}
use Rattle.journal_defs.proofs.laws.Turned.{In, in_at, Turns, turn_in}
use Rattle.journal_defs.proofs.laws.Follow.{in_out}

-- two steps up in one direction are on one side of every third
one_side_up : (ux uy xx xy wx wy : ℤ) → Up xx xy → Up wx wy → cross xx xy wx wy ≡ pos 0 → pos 0 <ℤ cross ux uy wx wy → pos 0 <ℤ cross ux uy xx xy
one_side_up ux uy xx xy wx wy (inl a) (inl b) line h =
    let e = three_upward ux uy wx wy xx xy in
    let f = cross_back wx wy xx xy in
    let z : uy *ℤ cross wx wy xx xy ≡ pos 0 = zero_right uy (cross wx wy xx xy) (omega (arith, ints, f, line)) in
    let p = positive_positive xy (cross ux uy wx wy) a h in
    cancel_strict wy (cross ux uy xx xy) b (omega (arith, ints, e, z, p))
one_side_up ux uy xx xy wx wy (inr a) (inl b) line h = absurd (let p = positive_positive xx wy a.1 b in let z = zero_left xy wx a.0 in omega (arith, ints, p, z, line))
one_side_up ux uy xx xy wx wy (inl a) (inr b) line h = absurd (let p = positive_positive xy wx a b.1 in let z = zero_right xx wy b.0 in omega (arith, ints, p, z, line))
one_side_up ux uy xx xy wx wy (inr a) (inr b) line h =
    let e = three_across ux uy wx wy xx xy in
    let f = cross_back wx wy xx xy in
    let z : ux *ℤ cross wx wy xx xy ≡ pos 0 = zero_right ux (cross wx wy xx xy) (omega (arith, ints, f, line)) in
    let p = positive_positive xx (cross ux uy wx wy) a.1 h in
    cancel_strict wx (cross ux uy xx xy) b.1 (omega (arith, ints, e, z, p))

-- so are the steps to two points in one direction from c
one_side : (ux uy : ℤ) (c x w : Point) → PointTogether c x w → pos 0 <ℤ cross ux uy (w.x -ℤ c.x) (w.y -ℤ c.y) → pos 0 <ℤ cross ux uy (x.x -ℤ c.x) (x.y -ℤ c.y)
unfolding area
one_side ux uy c x w (inl half, line) h =
    one_side_up ux uy (x.x -ℤ c.x) (x.y -ℤ c.y) (w.x -ℤ c.x) (w.y -ℤ c.y) (up c x half.0) (up c w half.1) line h
one_side ux uy c x w (inr half, line) h =
    let a = neg_neg (x.x -ℤ c.x) (x.y -ℤ c.y) (w.x -ℤ c.x) (w.y -ℤ c.y) in
    let g = neg_neg ux uy (w.x -ℤ c.x) (w.y -ℤ c.y) in
    let i = neg_neg ux uy (x.x -ℤ c.x) (x.y -ℤ c.y) in
    let r : pos 0 <ℤ cross (neg_ℤ ux) (neg_ℤ uy) (neg_ℤ (x.x -ℤ c.x)) (neg_ℤ (x.y -ℤ c.y)) =
    one_side_up (neg_ℤ ux) (neg_ℤ uy) (neg_ℤ (x.x -ℤ c.x)) (neg_ℤ (x.y -ℤ c.y)) (neg_ℤ (w.x -ℤ c.x)) (neg_ℤ (w.y -ℤ c.y)) (down c x half.0) (down c w half.1)
    (omega (arith, ints, a, line)) (omega (arith, ints, g, h)) in
    omega (arith, ints, i, r)

left_too : (c q x w : Point) → PointTogether c x w → pos 0 <ℤ area c q w → pos 0 <ℤ area c q x
unfolding area
left_too c q x w together h = one_side (q.x -ℤ c.x) (q.y -ℤ c.y) c x w together h

right_too : (c q x w : Point) → PointTogether c x w → pos 0 <ℤ area c w q → pos 0 <ℤ area c x q
unfolding area
right_too c q x w together h =
    let a = cross_back (w.x -ℤ c.x) (w.y -ℤ c.y) (q.x -ℤ c.x) (q.y -ℤ c.y) in
    let b = neg_cross (q.x -ℤ c.x) (q.y -ℤ c.y) (w.x -ℤ c.x) (w.y -ℤ c.y) in
    let d = cross_back (x.x -ℤ c.x) (x.y -ℤ c.y) (q.x -ℤ c.x) (q.y -ℤ c.y) in
    let e = neg_cross (q.x -ℤ c.x) (q.y -ℤ c.y) (x.x -ℤ c.x) (x.y -ℤ c.y) in
    let r : pos 0 <ℤ cross (neg_ℤ (q.x -ℤ c.x)) (neg_ℤ (q.y -ℤ c.y)) (x.x -ℤ c.x) (x.y -ℤ c.y) =
    one_side (neg_ℤ (q.x -ℤ c.x)) (neg_ℤ (q.y -ℤ c.y)) c x w together (omega (arith, ints, a, b, h)) in
    omega (arith, ints, d, e, r)

-- between a neighbour and the next one there is no third
wedge_free_at : (s : Seen) (k m w : ℕ) → IsStar s → k < length s.list → m < length s.list
    → pos 0 <ℤ orientation s.points s.centre (entry s.list k).0 w → pos 0 <ℤ orientation s.points s.centre w (entry s.list (around (length s.list) (k + 1))).0
    → ¬ IsInDirection s.points s.centre (entry s.list m).0 w
wedge_free_at s k m w so hk hm left right together =
    let c = point s.points s.centre in
    let n = around (length s.list) (k + 1) in
    let at : ℕ → Point = λ i. point s.points (entry s.list i).0 in
    let before : pos 0 <ℤ area c (at k) (at m) = left_too c (at k) (at m) (point s.points w) together left in
    let after : pos 0 <ℤ area c (at m) (at n) = right_too c (at n) (at m) (point s.points w) together right in
    elim (equal_or_not m k) [
      | inl e ↦ (let z : area c (at k) (at k) ≡ pos 0 = area_second c (at k) in
          let f : area c (at k) (at m) ≡ area c (at k) (at k) = ap (λ (i : ℕ). area c (at k) (at i)) e in omega (arith, ints, before, z, f))
      | inr ne ↦ elim (equal_or_not m n) [
        | inl e ↦ (let z : area c (at n) (at n) ≡ pos 0 = area_second c (at n) in
            let f : area c (at m) (at n) ≡ area c (at n) (at n) = ap (λ (i : ℕ). area c (at i) (at n)) e in omega (arith, ints, after, z, f))
        | inr far ↦ (let amid = next_or_amid s k m so hk hm ne far before in
            let t : area c (at n) (at m) ≡ neg_ℤ (area c (at m) (at n)) = area_swap c (at n) (at m) in
            let one : pos 0 <ℤ area c (at n) (at m) = amid.1 in omega (arith, ints, one, t, after))
      ]
    ]

-- told by names
wedge_free : (S : List Point) (s : Seen) (c p q w : ℕ) → IsStar s → s.centre ≡ c → s.points ≡ S → IsNext s p (Some q) → pos 0 <ℤ orientation S c p w → pos 0 <ℤ orientation S c w q → IsFree s w
wedge_free S s c p q w so centre of (k, (hk, at), is) left right m hm together =
    let A : List Point → Type 0 = λ P. pos 0 <ℤ orientation P s.centre (entry s.list k).0 w in
    let B : ℕ → Type 0 = λ x. pos 0 <ℤ orientation S x (entry s.list k).0 w in
    let C : ℕ → Type 0 = λ x. pos 0 <ℤ orientation S c x w in
    let n = (entry s.list (around (length s.list) (k + 1))).0 in
    let D : List Point → Type 0 = λ P. pos 0 <ℤ orientation P s.centre w n in
    let E : ℕ → Type 0 = λ x. pos 0 <ℤ orientation S x w n in
    let F : ℕ → Type 0 = λ x. pos 0 <ℤ orientation S c w x in
    wedge_free_at s k m w so hk hm
    (subst A (sym of) (subst B (sym centre) (subst C (sym at) left)))
    (subst D (sym of) (subst E (sym centre) (subst F is right)))
    together

-- a neighbour has one before it
one_before : (s : Seen) (p q r : ℕ) → IsStar s → IsNext s p (Some r) → IsNext s q (Some r) → p ≡ q
one_before s p q r so (i, (hi, ai), x) (j, (hj, aj), y) =
    let n = length s.list in
    let same : around n (i + 1) ≡ around n (j + 1) =
    one_position s.points s.centre s.list (around n (i + 1)) (around n (j + 1)) so (around_inside n i hi) (around_inside n j hj) (sym x ∙ y) in
    let one : i ≡ j = back n i j hi hj same in
    sym ai ∙ ap (λ (k : ℕ). (entry s.list k).0) one ∙ aj
  where
    back : (n i j : ℕ) → i < n → j < n → around n (i + 1) ≡ around n (j + 1) → i ≡ j
    back n i j hi hj e = elim (cases_lt (i + 1) n) [
      | inl a ↦ (let x : around n (i + 1) ≡ i + 1 = grind arith in elim (cases_lt (j + 1) n) [
        | inl b ↦ (let y : around n (j + 1) ≡ j + 1 = grind arith in omega (arith, x, y, e))
        | inr b ↦ (let y : around n (j + 1) ≡ 0 = grind arith in omega (arith, x, y, e))
      ])
      | inr a ↦ (let x : around n (i + 1) ≡ 0 = grind arith in elim (cases_lt (j + 1) n) [
        | inl b ↦ (let y : around n (j + 1) ≡ j + 1 = grind arith in omega (arith, x, y, e))
        | inr b ↦ omega (arith, a, b, hi, hj)
      ])
    ]

-- the points of a star's neighbours
pub neighbour_point : (S : List Point) (s : Seen) (q : ℕ) → IsStar s → s.points ≡ S → IsNeighbour s q → q < length S
neighbour_point S s q so of (k, (hk, at)) = subst (λ (P : List Point). q < length P) of (subst (λ (n : ℕ). n < length s.points) at (so.within k hk))

pub next_neighbour : (s : Seen) (q r : ℕ) → IsNext s q (Some r) → IsNeighbour s r
next_neighbour s q r (k, (hk, at), is) = (around (length s.list) (k + 1), (around_inside (length s.list) k hk, sym is))

-- The corner opposite to a side of a pair: where the stars agree, the side's ends stand there one after the other. p is the
-- corner, the apex of i to j.
ends_beside : (S : List Point) (at : ℕ → Seen) (V : ℕ → Type 0) (i j p : ℕ) → AreAgreeing S at V → V i → V p → i < length S → j < length S → ShowsApex S (at i) i j p → IsNext (at p) i (Some j)
ends_beside S at V i j p agree vi vp hi hj (next, left) =
    let so = (agree.stars i vi).0 in
    let there : IsNeighbour (at p) i = agree.joined i p vi vp (next_neighbour (at i) j p next) in
    let turn : area (point S i) (point S j) (point S p) ≡ area (point S p) (point S i) (point S j) = area_cycle (point S i) (point S j) (point S p) ∙ area_cycle (point S j) (point S p) (point S i) in
    let (r, first, second) = agree.sides p i vp vi there (j, hj, omega (arith, ints, turn, left)) in
    let same : r ≡ j = one_before (at i) r j p so second next in
    subst (λ (x : ℕ). IsNext (at p) i (Some x)) same first

-- so a flip finds room between them, at both of its new ends
corner_free : (S : List Point) (at : ℕ → Seen) (V : ℕ → Type 0) (e : Pair) (k l : ℕ) → AreAgreeing S at V → V e.lo → V e.hi → V k → e.hi < length S → ShowsApex S (at e.lo) e.lo e.hi k
    → IsLowRight S e k l → IsHighLeft S e k l → IsFree (at k) l
corner_free S at V e k l agree vlo vhi vk h near lower upper =
    let o = e.ordered in
    let (so, centre, of) = agree.stars k vk in
    let turn : area (point S k) (point S e.lo) (point S l) ≡ neg_ℤ (area (point S k) (point S l) (point S e.lo)) = area_swap (point S k) (point S e.lo) (point S l) in
    wedge_free S (at k) k e.lo e.hi l so centre of
    (ends_beside S at V e.lo e.hi k agree vlo vk (omega (arith, o, h)) h near)
    (omega (arith, ints, turn, lower)) upper

far_corner_free : (S : List Point) (at : ℕ → Seen) (V : ℕ → Type 0) (e : Pair) (k l : ℕ) → AreAgreeing S at V → V e.lo → V e.hi → V l → e.hi < length S → ShowsApex S (at e.hi) e.hi e.lo l
    → IsLowRight S e k l → IsHighLeft S e k l → IsFree (at l) k
far_corner_free S at V e k l agree vlo vhi vl h far lower upper =
    let o = e.ordered in
    let (so, centre, of) = agree.stars l vl in
    let low : area (point S l) (point S k) (point S e.lo) ≡ neg_ℤ (area (point S k) (point S l) (point S e.lo)) = area_back (point S l) (point S k) (point S e.lo) in
    let high : area (point S l) (point S e.hi) (point S k) ≡ area (point S k) (point S l) (point S e.hi) = sym (area_cycle (point S k) (point S l) (point S e.hi)) in
    wedge_free S (at l) l e.hi e.lo k so centre of
    (ends_beside S at V e.hi e.lo l agree vhi vl h (omega (arith, o, h)) far)
    (omega (arith, ints, high, upper)) (omega (arith, ints, low, lower))

pub flip_free : (S : List Point) (at : ℕ → Seen) (V : ℕ → Type 0) (e f : Pair) → AreAgreeing S at V → V e.lo → V e.hi → V f.lo → V f.hi → FitsFlip S (at e.lo) (at e.hi) (at f.lo) e f → (v w : ℕ) → HasEnds f v w → IsFree (at v) w
flip_free S at V e f agree vlo vhi va vb fits v w ends =
    let h : e.hi < length S = neighbour_point S (at e.lo) e.hi (agree.stars e.lo vlo).0 (agree.stars e.lo vlo).2 fits.there in
    tell h fits.apexes.ends ends
  where
    both : (k l : ℕ) → k ≡ fits.near → l ≡ fits.far → e.hi < length S → (V k → IsFree (at k) l) × (V l → IsFree (at l) k)
    both k l a b h =
        let P : ℕ → ℕ → Type 0 = λ x y. (V x → IsFree (at x) y) × (V y → IsFree (at y) x) in
        subst (λ (x : ℕ). P x l) (sym a) (subst (λ (y : ℕ). P fits.near y) (sym b) (
          λ vk. corner_free S at V e fits.near fits.far agree vlo vhi vk h fits.apexes.near fits.lower fits.upper,
          λ vl. far_corner_free S at V e fits.near fits.far agree vlo vhi vl h fits.apexes.far fits.lower fits.upper,
        ))

    tell : e.hi < length S → HasEnds f fits.near fits.far → HasEnds f v w → IsFree (at v) w
    tell h (inl a) (inl b) = (both v w (sym b.0 ∙ a.0) (sym b.1 ∙ a.1) h).0 (subst V b.0 va)
    tell h (inl a) (inr b) = (both w v (sym b.0 ∙ a.0) (sym b.1 ∙ a.1) h).1 (subst V b.1 vb)
    tell h (inr a) (inl b) = (both w v (sym b.1 ∙ a.1) (sym b.0 ∙ a.0) h).1 (subst V b.0 va)
    tell h (inr a) (inr b) = (both v w (sym b.1 ∙ a.1) (sym b.0 ∙ a.0) h).0 (subst V b.1 vb)

-- the ends of a flip have none in common
pub flip_apart : (S : List Point) (low high new : Seen) (e f : Pair) → FitsFlip S low high new e f → (v : ℕ) → is_end e v ≡ true → is_end f v ≡ true → ⊥
flip_apart S low high new e f fits v he hf =
    let same : (n : ℕ) → (fits.near ≡ n) ⊎ (fits.far ≡ n) → n ≡ e.lo → ⊥ = λ n m is. elim m [
      | inl a ↦ (let z : area (point S fits.near) (point S fits.far) (point S e.lo) ≡ pos 0 = ap (λ (x : ℕ). area (point S fits.near) (point S fits.far) (point S x)) (sym is ∙ sym a) ∙ area_first (point S fits.near) (point S fits.far) in let l = fits.lower in omega (arith, ints, z, l))
      | inr a ↦ (let z : area (point S fits.near) (point S fits.far) (point S e.lo) ≡ pos 0 = ap (λ (x : ℕ). area (point S fits.near) (point S fits.far) (point S x)) (sym is ∙ sym a) ∙ area_second (point S fits.near) (point S fits.far) in let l = fits.lower in omega (arith, ints, z, l))
    ] in
    let other : (n : ℕ) → (fits.near ≡ n) ⊎ (fits.far ≡ n) → n ≡ e.hi → ⊥ = λ n m is. elim m [
      | inl a ↦ (let z : area (point S fits.near) (point S fits.far) (point S e.hi) ≡ pos 0 = ap (λ (x : ℕ). area (point S fits.near) (point S fits.far) (point S x)) (sym is ∙ sym a) ∙ area_first (point S fits.near) (point S fits.far) in let l = fits.upper in omega (arith, ints, z, l))
      | inr a ↦ (let z : area (point S fits.near) (point S fits.far) (point S e.hi) ≡ pos 0 = ap (λ (x : ℕ). area (point S fits.near) (point S fits.far) (point S x)) (sym is ∙ sym a) ∙ area_second (point S fits.near) (point S fits.far) in let l = fits.upper in omega (arith, ints, z, l))
    ] in
    elim (end_of e v he) [
      | inl a ↦ same v (new_end (end_of f v hf) fits.apexes.ends) (sym a)
      | inr a ↦ other v (new_end (end_of f v hf) fits.apexes.ends) (sym a)
    ]
  where
    end_of : (g : Pair) (x : ℕ) → is_end g x ≡ true → (g.lo ≡ x) ⊎ (g.hi ≡ x)
    end_of g x h = (Decides-or (nat_eq g.lo x) (nat_eq g.hi x) (Decides-eqb g.lo x) (Decides-eqb g.hi x)).0 h

    new_end : (f.lo ≡ v) ⊎ (f.hi ≡ v) → HasEnds f fits.near fits.far → (fits.near ≡ v) ⊎ (fits.far ≡ v)
    new_end (inl a) (inl b) = inl (sym b.0 ∙ a)
    new_end (inl a) (inr b) = inr (sym b.0 ∙ a)
    new_end (inr a) (inl b) = inr (sym b.1 ∙ a)
    new_end (inr a) (inr b) = inl (sym b.1 ∙ a)

-- where a neighbour has gone out of a star there is room for it in its direction
pub left_free : (S : List Point) (a : Seen) (w : ℕ) (c : Bool) (l : List (ℕ × Bool)) (n : ℕ) → IsStar a → a.points ≡ S → In (w, c) a.list → l ≡ leave_out w a.list → IsFree (record { centre = a.centre; list = l; spare = n; points = S }) w
left_free S a w c l n so of here is k hk together =
    let x = entry l k in
    let (there, other) = in_out w a.list x (subst (λ (m : List (ℕ × Bool)). In x m) is (in_at l k hk)) in
    apart (turn_in S a.centre a.list (subst (λ (P : List Point). IsOrderly P a.centre a.list) of so).order) a.list x there other here together
  where
    apart : Turns S a.centre a.list → (m : List (ℕ × Bool)) (x : ℕ × Bool) → In x a.list → x.0 ≢ w → In (w, c) a.list → ¬ IsInDirection S a.centre x.0 w
    apart t m x there other here = order a.list t there here
      where
        order : (m : List (ℕ × Bool)) → Turns S a.centre m → In x m → In (w, c) m → ¬ IsInDirection S a.centre x.0 w
        order [] t i j = absurd i
        order (y ∷ ys) t (inl i) (inl j) = absurd (other (ap (λ (p : ℕ × Bool). p.0) (sym i ∙ j)))
        order (y ∷ ys) t (inl i) (inr j) = not_together (point S a.centre) (point S x.0) (point S w) (subst (λ (n : ℕ). IsBeforeInTurn S a.centre n w) (ap (λ (p : ℕ × Bool). p.0) i) (t.0 (w, c) j))
        order (y ∷ ys) t (inr i) (inl j) = not_together_after (point S a.centre) (point S x.0) (point S w) (subst (λ (n : ℕ). IsBeforeInTurn S a.centre n x.0) (ap (λ (p : ℕ × Bool). p.0) j) (t.0 x i))
        order (y ∷ ys) t (inr i) (inr j) = order ys t.1 i j
